use Rattle.std.proofs.Common.{◌≡◌, ℕ, ◌++◌, Bool, true, false, List, length, drop, Some, None, sym, ap, ◌∙◌}
use Rattle.std.specs.Prelude.{◌==◌}
use Rattle.cookie_psl.specs.Rules.{labels_of, last_labels, prevailing, suffix_of, without_final_dot, Prevailing, RuleList, SuffixValue}
use Rattle.cookie_psl.proofs.suffix.suffix_by.Goals as goal

-- the suffix given by a prevailing rule
abbrev suffix_from : List ℕ → Prevailing → SuffixValue
suffix_from domain found = record {
  text = last_labels found.count (without_final_dot domain) ++ drop (length (without_final_dot domain)) domain;
  is_known = found.is_known;
}

-- an empty domain has no suffix
suffix_of-empty : (rules : RuleList) (domain : List ℕ) → (length (without_final_dot domain) == 0) ≡ true → suffix_of rules domain ≡ None
unfolding suffix_of
suffix_of-empty rules domain h = rw h

-- each other domain has one
suffix_of-some : (rules : RuleList) (domain : List ℕ) → (length (without_final_dot domain) == 0) ≡ false
    → suffix_of rules domain ≡ Some (suffix_from domain (prevailing rules (labels_of (without_final_dot domain))))
unfolding suffix_of
suffix_of-some rules domain h = rw h

-- suffixes with equal parts are equal
same_parts : (a b : SuffixValue) → a.text ≡ b.text → a.is_known ≡ b.is_known → a ≡ b
same_parts a b e h =
    let suffix : List ℕ → Bool → SuffixValue = λ text is_known. record { text = text; is_known = is_known } in
    ap (λ text. suffix text a.is_known) e ∙ ap (λ is_known. suffix b.text is_known) h

-- the suffix of a nonempty domain, by the prevailing rule
suffix_of-found : (rules : RuleList) (domain : List ℕ) (value : SuffixValue) → (length (without_final_dot domain) == 0) ≡ false
    → value ≡ suffix_from domain (prevailing rules (labels_of (without_final_dot domain))) → Some value ≡ suffix_of rules domain
suffix_of-found rules domain value h same = ap Some same ∙ sym (suffix_of-some rules domain h)

pub returns-then-is_empty-clause-value : goal.returns-then-is_empty-clause-value
returns-then-is_empty-clause-value c = λ rules _ _.
    sym (suffix_of-empty rules c.args.domain.now
    (sym (ap (λ xs. length xs == 0) c.without_final_dot.ensures) ∙ sym c.is_empty.ensures ∙ c.if-is_empty.true))

pub returns-clause-value : goal.returns-clause-value
returns-clause-value c = λ rules count is_known.
    let domain = c.args.domain.now in
    let bare = without_final_dot domain in
    let value : SuffixValue = record { text = c.from_labels.result.now; is_known = c.args.is_known } in
    suffix_of-found rules domain value
    (sym (ap (λ xs. length xs == 0) c.without_final_dot.ensures) ∙ sym c.is_empty.ensures ∙ c.if-is_empty.false)
    (same_parts value (suffix_from domain (prevailing rules (labels_of bare)))
    (c.from_labels.ensures.value ∙ ap (λ n. last_labels n bare ++ drop (length bare) domain) count)
    is_known)
