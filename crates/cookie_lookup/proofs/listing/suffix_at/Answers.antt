use Rattle.std.proofs.Common.{◌≡◌, ◌∙◌, ◌-◌, true, false, sym, ap, subst, drop, length, bytes_eq, arith, Some}
use Rattle.std.specs.List.{list_any}
use Rattle.cookie_lookup.specs.Candidates.{candidate_domains}
use Rattle.cookie_lookup.proofs.CandidateDomains.{related_texts_are}
use Rattle.cookie_lookup.proofs.CandidateDomainTest.{domain_text_by, suffix_boundary, suffix_text}
use Rattle.cookie_lookup.proofs.listing.suffix_at.Goals as goal

pub range_from-requires : goal.range_from-requires
range_from-requires g c =
    let host = c.args.host.now in
    let text = c.in-Some.text.now in
    let same = domain_text_by host text c.as_bytes-bytes.result.now c.as_bytes.result.now c.as_bytes-bytes.ensures.value c.as_bytes.ensures.value in
    suffix_boundary host text c.utf8.host ((related_texts_are host text).0 (sym (c.is_candidate_domain.ensures ∙ same) ∙ c.if-is_candidate_domain.true))

pub returns-then-is_candidate_domain-clause-suffix : goal.returns-then-is_candidate_domain-clause-suffix
returns-then-is_candidate_domain-clause-suffix g c =
    let host = c.args.host.now in
    let text = c.in-Some.text.now in
    let same = domain_text_by host text c.as_bytes-bytes.result.now c.as_bytes.result.now c.as_bytes-bytes.ensures.value c.as_bytes.ensures.value in
    let cut : c.range_from.result.now ≡ drop (length host - length text) host = rw c.range_from.ensures.value (grind arith) in
    ap Some (cut ∙ suffix_text host text ((related_texts_are host text).0 (sym (c.is_candidate_domain.ensures ∙ same) ∙ c.if-is_candidate_domain.true))) ∙ c.in-Some.ensures

pub returns-then-is_candidate_domain-clause-is : goal.returns-then-is_candidate_domain-clause-is
returns-then-is_candidate_domain-clause-is g c =
    let host = c.args.host.now in
    let text = c.in-Some.text.now in
    let same = domain_text_by host text c.as_bytes-bytes.result.now c.as_bytes.result.now c.as_bytes-bytes.ensures.value c.as_bytes.ensures.value in
    let among : list_any (bytes_eq text) (candidate_domains host) ≡ true = sym (c.is_candidate_domain.ensures ∙ same) ∙ c.if-is_candidate_domain.true in
    let cut : c.range_from.result.now ≡ drop (length host - length text) host = rw c.range_from.ensures.value (grind arith) in
    subst (λ t. list_any (bytes_eq t) (candidate_domains host) ≡ true) (sym (cut ∙ suffix_text host text ((related_texts_are host text).0 among))) among

pub returns-else-is_candidate_domain-clause-none : goal.returns-else-is_candidate_domain-clause-none
returns-else-is_candidate_domain-clause-none g c = λ text is.
    let host = c.args.host.now in
    let here = c.in-Some.text.now in
    let e : Some text ≡ Some here = is ∙ sym c.in-Some.ensures in
    let it : text ≡ here = cc in
    let same = domain_text_by host here c.as_bytes-bytes.result.now c.as_bytes.result.now c.as_bytes-bytes.ensures.value c.as_bytes.ensures.value in
    subst (λ t. list_any (bytes_eq t) (candidate_domains host) ≡ false) (sym it) (sym (c.is_candidate_domain.ensures ∙ same) ∙ c.if-is_candidate_domain.false)
