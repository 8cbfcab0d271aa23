use Rattle.std.proofs.Common.{[], ◌∷◌, ◌++◌, string_bytes, ap, sym, ◌∙◌, append-nil, lit<, refl, rules}
use Rattle.std.specs.Char.{encode_utf8}
use Rattle.std.proofs.lemmas.Bool.{cond-false, cond-true}
use Rattle.std.proofs.lemmas.Str.Pattern.{split_parts}
use Rattle.cookie_edit.proofs.EndedLines.{last_kept, next_dropped, next_kept}
use Rattle.cookie_edit.proofs.lines.push_others.Goals as goal

pub loop-line-preserved-in_ok-push : goal.loop-line-preserved-in_ok-push
unfolding encode_utf8
loop-line-preserved-in_ok-push g c =
    let parts = rw c.in-Some.is at (split_parts 10 c.loop-line.rest.now c.split_once.result c.split_once.ensures.cases (lit< tt)) in
    record {
      utf8 = search rules;
      text = next_kept (λ line. c.line_reads_back.ensures.end line 10 refl) (g.N.NamesCookies.names c.args.test.now) (string_bytes c.loop-line.edited)
          c.in-Some.line.now c.in-Some.after.now c.loop-line.rest.now _ _ parts.0 parts.1
          (sym c.in_ok-is_named.ensures ∙ c.if-not-branch.true) c.loop-line.invariant.text
          (c.in_ok-push.ensures.bytes ∙ ap (λ text. text ++ 10 ∷ []) c.in_ok-push_str.ensures.bytes);
    }

pub loop-line-preserved : goal.loop-line-preserved
loop-line-preserved g c =
    let parts = rw c.in-Some.is at (split_parts 10 c.loop-line.rest.now c.split_once.result c.split_once.ensures.cases (lit< tt)) in
    record {
      utf8 = search rules;
      text = next_dropped (λ line. c.line_reads_back.ensures.end line 10 refl) (g.N.NamesCookies.names c.args.test.now) (string_bytes c.loop-line.edited)
          c.in-Some.line.now c.in-Some.after.now c.loop-line.rest.now _ parts.0 parts.1
          (sym c.in_ok-is_named.ensures ∙ c.if-not-branch.false) c.loop-line.invariant.text;
    }

pub returns-in_ok-push_str-2 : goal.returns-in_ok-push_str-2
returns-in_ok-push_str-2 g c =
    let none = rw c.in_default.is at (split_parts 10 c.loop-line.rest.now c.split_once.result c.split_once.ensures.cases (lit< tt)) in
    let last = last_kept (g.N.NamesCookies.names c.args.test.now) c.loop-line.rest.now none in
    c.in_ok-push_str-2.ensures.bytes
    ∙ ap (λ text. string_bytes c.loop-line.edited ++ text) (sym (last ∙ cond-false _ _ _ (sym c.in_ok-is_named-2.ensures ∙ c.if-not-branch-2.true)))
    ∙ c.loop-line.invariant.text

pub returns-else-not-branch-2 : goal.returns-else-not-branch-2
returns-else-not-branch-2 g c =
    let none = rw c.in_default.is at (split_parts 10 c.loop-line.rest.now c.split_once.result c.split_once.ensures.cases (lit< tt)) in
    let last = last_kept (g.N.NamesCookies.names c.args.test.now) c.loop-line.rest.now none in
    sym (append-nil (string_bytes c.loop-line.edited))
    ∙ ap (λ text. string_bytes c.loop-line.edited ++ text) (sym (last ∙ cond-true _ _ _ (sym c.in_ok-is_named-2.ensures ∙ c.if-not-branch-2.false)))
    ∙ c.loop-line.invariant.text
