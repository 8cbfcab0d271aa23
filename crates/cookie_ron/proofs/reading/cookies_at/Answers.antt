use Rattle.std.proofs.Common.{[], ◌∷◌, length, map, codes, ap, sym, ◌∙◌, rules}
use Rattle.std.specs.Str.{chars}
use Rattle.std.proofs.lemmas.List.{map-append}
use Rattle.cookie_ron.specs.Views.{entry_view}
use Rattle.cookie_ron.specs.RonInput.{behind_cookie, token_at, cookie_at, cookies_at}
use Rattle.cookie_ron.proofs.ListFronts.{turn_shorter, cookies_turn, some_cookie}
use Rattle.cookie_ron.proofs.reading.cookies_at.Goals as goal

pub loop-behind-smaller : goal.loop-behind-smaller
loop-behind-smaller c =
    turn_shorter (chars c.loop-behind.rest.now) (chars c.in_ok-entry.behind.now) (chars c.in-Ok-token_at.next.now) (entry_view c.in_ok-entry.entry)
    c.in_ok-entry.ensures.read c.in-Ok-token_at.ensures.read

pub loop-behind-preserved : goal.loop-behind-preserved
loop-behind-preserved c = (
  search rules,
  c.loop-behind.invariant.1
      ∙ cookies_turn (map entry_view c.loop-behind.entries.items) (map entry_view c.push.new.self.items)
      (chars c.loop-behind.rest.now) (chars c.in_ok-entry.behind.now) (chars c.in-Ok-token_at.next.now) (entry_view c.in_ok-entry.entry)
      c.in_default.ensures.errors.1 c.in_ok-entry.ensures.read c.in-Ok-token_at.ensures.read
      (ap (map entry_view) c.in_ok-push.ensures.items ∙ map-append entry_view c.loop-behind.entries.items (c.in_ok-entry.entry ∷ [])),
)

pub returns-in_err-entry-clause-memory : goal.returns-in_err-entry-clause-memory
returns-in_err-entry-clause-memory c rest is =
    let l = c.loop-behind in
    absurd
    (some_cookie (map entry_view l.entries.items) (token_at (codes "]") (chars l.rest.now)) (cookie_at (chars l.rest.now))
    (λ first. behind_cookie (λ t. cookies_at (length (chars l.rest.now)) t) first.1) rest c.in_default.ensures.errors.1 (sym l.invariant.1 ∙ is))

pub returns-in_err-push-clause-memory : goal.returns-in_err-push-clause-memory
returns-in_err-push-clause-memory c rest is =
    let l = c.loop-behind in
    absurd
    (some_cookie (map entry_view l.entries.items) (token_at (codes "]") (chars l.rest.now)) (cookie_at (chars l.rest.now))
    (λ first. behind_cookie (λ t. cookies_at (length (chars l.rest.now)) t) first.1) rest c.in_default.ensures.errors.1 (sym l.invariant.1 ∙ is))
