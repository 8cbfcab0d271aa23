use Rattle.std.proofs.Common.{◌++◌, length, length-append, string_bytes, sym, ap, ◌∙◌, arith, rules}
use Rattle.std.specs.Str.{chars, encode_utf8_all}
use Rattle.cookie_ron.proofs.TextFronts.{char_shorter, run_turn, text_begins}
use Rattle.cookie_ron.proofs.texts.text_at.Goals as goal

pub loop-c-init : goal.loop-c-init
loop-c-init c =
    let run = c.in_ok-rest.ensures in (
      search rules,
      text_begins (chars c.args.input.now) (chars c.in_ok-first.first.now) (chars c.in_ok-rest.rest.now) run.0 _ c.in_ok-first.ensures.read run.2 run.3
          (run.1 ∙ ap (λ t. t ++ encode_utf8_all run.0) c.new-text.ensures.bytes),
    )

pub loop-c-smaller : goal.loop-c-smaller
loop-c-smaller c =
    let run = c.in_ok-rest-in-Some.ensures in
    omega (
      arith,
      char_shorter (chars c.loop-c.rest.now) (chars c.in-Some.next.now) c.in-Some.c (sym c.in-Some.ensures),
      ap length run.2,
      length-append run.0 (chars c.in_ok-rest-in-Some.rest.now),
    )

pub loop-c-preserved : goal.loop-c-preserved
loop-c-preserved c =
    let run = c.in_ok-rest-in-Some.ensures in (
      search rules,
      c.loop-c.invariant.1
          ∙ run_turn (string_bytes c.loop-c.text) _ _ (chars c.loop-c.rest.now) (chars c.in-Some.next.now) (chars c.in_ok-rest-in-Some.rest.now) run.0
          c.in-Some.c (sym c.in-Some.ensures) c.in_ok-push-in-Some.ensures.bytes run.2 run.3 run.1,
    )
