use Rattle.std.proofs.Common.{[], ◌∷◌, ◌++◌, string_bytes, ap, sym, ◌∙◌, lit<, refl, rules}
use Rattle.std.specs.Char.{encode_utf8}
use Rattle.std.proofs.lemmas.Bool.{cond-false, cond-true}
use Rattle.std.proofs.lemmas.Str.Pattern.{split_parts}
use Rattle.cookie_laws.specs.Rows.{has_key, key_of}
use Rattle.cookie_edit.specs.Edits.{missing_end, new_line}
use Rattle.cookie_edit.proofs.EndedLines.{grouped, kept_text, last_with, next_before, next_replaced}
use Rattle.cookie_edit.proofs.put.edited.Goals as goal
use Rattle.cookie_edit.proofs.put.edited.Goals.{then-not-branch+in_ok-push_str-3+in_ok-push_str-4, else-not-branch}

pub returns-then-branch : goal.returns-then-branch
returns-then-branch c =
    let parts = rw c.in-Some.is at (split_parts 10 c.loop-old.rest.now c.split_once.result c.split_once.ensures.cases (lit< tt)) in
    let names = has_key (key_of c.args.cookie.now) in
    next_replaced (λ line. c.line_reads_back.ensures.end line 10 refl) names (new_line c.args.text.now c.args.cookie.now)
    (missing_end c.args.text.now) (string_bytes c.loop-old.edited) c.in-Some.old.now c.in-Some.after.now c.loop-old.rest.now _ _ parts.0 parts.1
    (sym c.in_ok-is_named.ensures ∙ c.if-branch.true) c.loop-old.invariant.text
    (c.in_ok-push_others.ensures
    ∙ ap (λ text. text ++ kept_text names c.in-Some.after.now) (c.in_ok-push_str.ensures.bytes
    ∙ ap (λ line. string_bytes c.loop-old.edited ++ line) (c.as_str.ensures.value ∙ c.in_ok-line.ensures)))

pub loop-old-preserved : goal.loop-old-preserved
unfolding encode_utf8
loop-old-preserved c =
    let parts = rw c.in-Some.is at (split_parts 10 c.loop-old.rest.now c.split_once.result c.split_once.ensures.cases (lit< tt)) in
    record {
      utf8 = search rules;
      text = next_before (λ line. c.line_reads_back.ensures.end line 10 refl) (has_key (key_of c.args.cookie.now))
          (new_line c.args.text.now c.args.cookie.now) (missing_end c.args.text.now) (string_bytes c.loop-old.edited) c.in-Some.old.now
          c.in-Some.after.now c.loop-old.rest.now _ _ parts.0 parts.1 (sym c.in_ok-is_named.ensures ∙ c.if-branch.false) c.loop-old.invariant.text
          (c.in_ok-push.ensures.bytes ∙ ap (λ text. text ++ 10 ∷ []) c.in_ok-push_str-2.ensures.bytes);
    }

pub returns : goal.returns
returns c =
    let none = rw c.in_default.is at (split_parts 10 c.loop-old.rest.now c.split_once.result c.split_once.ensures.cases (lit< tt)) in
    let names = has_key (key_of c.args.cookie.now) in
    let line = new_line c.args.text.now c.args.cookie.now in
    let missing = missing_end c.args.text.now in
    let last = last_with names line missing c.loop-old.rest.now none in
    let pushed = c.in_ok-push_str-5.ensures.bytes
    ∙ ap (λ text. string_bytes c.if-not-branch.edited ++ text) (c.as_str-2.ensures.value ∙ c.in_ok-line.ensures) in
    elim c.if-not-branch.branch [
      | then-not-branch+in_ok-push_str-3+in_ok-push_str-4 w ↦ pushed
          ∙ ap (λ text. text ++ line) (ap string_bytes w.edited-is ∙ w.in_ok-push_str-4.ensures.bytes
          ∙ ap (λ text. string_bytes w.push_str-then-not-branch.new.self ++ text) w.missing_end.ensures
          ∙ ap (λ text. text ++ missing) w.in_ok-push_str-3.ensures.bytes)
          ∙ grouped (string_bytes c.loop-old.edited) c.loop-old.rest.now missing line
          ∙ ap (λ text. string_bytes c.loop-old.edited ++ text) (sym (last ∙ cond-false _ _ _ (sym c.in_ok-is_named-2.ensures ∙ w.if-not-branch.true)))
          ∙ c.loop-old.invariant.text
      | else-not-branch w ↦ pushed ∙ ap (λ edited. string_bytes edited ++ line) w.edited-is
          ∙ ap (λ text. string_bytes c.loop-old.edited ++ text) (sym (last ∙ cond-true _ _ _ (sym c.in_ok-is_named-2.ensures ∙ w.if-not-branch.false)))
          ∙ c.loop-old.invariant.text
    ]
