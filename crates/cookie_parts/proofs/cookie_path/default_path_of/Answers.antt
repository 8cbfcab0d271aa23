use Rattle.std.proofs.Common.{sym, ap, ap₂, ◌∙◌, take, None, Some, lit<}
use Rattle.std.proofs.Math.Nat.{sub-zero}
use Rattle.std.proofs.lemmas.Str.Pattern.{rfind_char}
use Rattle.cookie_parts.proofs.Paths.{default_path-below, default_path-none, default_path-root}
use Rattle.cookie_parts.proofs.cookie_path.default_path_of.Goals as goal

pub returns-in-Some-eq0 : goal.returns-in-Some-eq0
returns-in-Some-eq0 c =
    let url = c.args.url.now in
    let first = c.in-Some-eq0.field-0 in
    let is_last = rfind_char 47 url.path (Some first) (rw c.path.ensures.value at c.in-Some-eq0.ensures.cases) (lit< tt) in
    c.range.ensures.value
    ∙ ap (take 1) c.path-in-Some-eq0.ensures.value
    ∙ sym (default_path-root url first (sym c.if-cannot_be_a_base.ensures)
    (record { fits = is_last.0; is = is_last.1; last = is_last.2 }) c.in-Some-eq0.field-0-test)

pub returns-in-Some : goal.returns-in-Some
returns-in-Some c =
    let url = c.args.url.now in
    let last = c.in-Some.at in
    let is_last = rfind_char 47 url.path (Some last) (rw c.path.ensures.value at c.in-Some.ensures.cases) (lit< tt) in
    c.range-in-Some.ensures.value
    ∙ ap₂ take (sub-zero last) c.path-in-Some.ensures.value
    ∙ sym (default_path-below url last (sym c.if-cannot_be_a_base.ensures)
    (record { fits = is_last.0; is = is_last.1; last = is_last.2 }) c.in-Some.at-test.1)

pub returns-in-None : goal.returns-in-None
returns-in-None c =
    let url = c.args.url.now in
    sym (default_path-none url (sym c.if-cannot_be_a_base.ensures)
    (rfind_char 47 url.path None (rw c.path.ensures.value at c.in-None.ensures.cases) (lit< tt)))
