use Rattle.std.proofs.Common.{◌≡◌, ℕ, ◌+◌, ◌-◌, ◌^◌, ◌<◌, ◌≤◌, ◌++◌, true, false, List, length, drop, None, Some, bytes_eq, refl, sym, ap, ◌∙◌, arith}
use Rattle.std.specs.Prelude.{min}
use Rattle.std.specs.List.{join_with_byte}
use Rattle.std.proofs.lemmas.List.{length-reverse}
use Rattle.cookie_words.specs.Strings.{pieces}
use Rattle.cookie_psl.specs.Rules.{ending, labels_of, prevailing, registrable_domain, without_final_dot, RuleList}
use Rattle.cookie_psl.proofs.BareLabels.{bare_labels_fit}
use Rattle.cookie_psl.proofs.suffix.registrable_by.Goals as goal

-- a domain that is its public suffix has no registrable domain
registrable_domain-none : (rules : RuleList) (domain : List ℕ) (count : ℕ) → count ≡ (prevailing rules (labels_of (without_final_dot domain))).count
    → bytes_eq (ending count domain) domain ≡ true → registrable_domain rules domain ≡ None
unfolding registrable_domain
registrable_domain-none rules domain count is whole = rw (sym is) (rw whole refl)

-- each other domain has one
registrable_domain-some : (rules : RuleList) (domain : List ℕ) (count : ℕ) → count ≡ (prevailing rules (labels_of (without_final_dot domain))).count
    → bytes_eq (ending count domain) domain ≡ false → registrable_domain rules domain ≡ Some (ending (count + 1) domain)
unfolding registrable_domain
registrable_domain-some rules domain count is part = rw (sym is) (rw part refl)

-- no domain has more labels than a usize counts
ending-saturated : (domain : List ℕ) (count : ℕ) → length domain < 2 ^ 64 → ending (min (count + 1) (2 ^ 64 - 1)) domain ≡ ending (count + 1) domain
ending-saturated domain count fits =
    let bare = without_final_dot domain in
    let few : length (pieces 46 bare) ≤ 2 ^ 64 - 1 = omega (arith, bare_labels_fit domain fits, length-reverse (pieces 46 bare)) in
    let left : length (pieces 46 bare) - min (count + 1) (2 ^ 64 - 1) ≡ length (pieces 46 bare) - (count + 1) = omega (arith, few) in
    ap (λ n. join_with_byte 46 (drop n (pieces 46 bare)) ++ drop (length bare) domain) left

pub returns-then-eq : goal.returns-then-eq
returns-then-eq c = λ rules is.
    let domain = c.args.domain.now in
    sym (registrable_domain-none rules domain c.args.count is
    (ap (λ text. bytes_eq text domain) (sym c.from_labels.ensures.value) ∙ sym c.eq.ensures ∙ c.if-eq.true))

pub returns : goal.returns
returns c = λ rules is.
    let domain = c.args.domain.now in
    ap Some
    (c.from_labels-2.ensures.value ∙ ap (λ n. ending n domain) c.saturating_add.ensures ∙ ending-saturated domain c.args.count (omega arith))
    ∙ sym (registrable_domain-some rules domain c.args.count is
    (ap (λ text. bytes_eq text domain) (sym c.from_labels.ensures.value) ∙ sym c.eq.ensures ∙ c.if-eq.false))
