-- One more attribute: it counts if it is accepted, otherwise the earlier ones do.
use Rattle.std.proofs.Common.{◌≡◌, ℕ, Bool, true, false, List, [], ◌∷◌, ◌++◌, codes, map, Option, Some, None, if◌then◌else◌, option_and_then, refl, ap, ◌∙◌}
use Rattle.std.specs.Borrow.{Bor}
use Rattle.std.specs.List.{filter_map, cons_option}
use Rattle.std.specs.Option.{option_or}
use Rattle.std.proofs.lemmas.List.{map-append, append-nil}
use Rattle.std.proofs.lemmas.List.Elements.{filter_map-append}
use Rattle.cookie_raw.specs.AttributeSteps.{decided, domain_after, same_site_after}
use Rattle.cookie_raw.specs.Rfc6265bis.{accepted_by, any_named, domain_by, is_ignored, last_by, name_by, same_site_by, unless_empty, value_by}
use Rattle.cookie_raw.specs.SetCookie.{last, accepted_value, domain_from, same_site_from, site_of}
use Rattle.cookie_raw.specs.declared.syntax.Syntax.{Syntax}
use Rattle.cookie_raw.specs.declared.syntax.Syntax.TheVariants.{Rfc6265, Rfc6265bis}

last-push : {T : Type 0} (xs : List T) (x : T) → last (xs ++ x ∷ []) ≡ Some x
last-push [] x = refl
last-push (y ∷ []) x = refl
last-push (y ∷ z ∷ zs) x = last-push (z ∷ zs) x

-- the last element after at most one more is appended
last-cons_option : {T : Type 0} (xs : List T) (o : Option T) → last (xs ++ cons_option o []) ≡ option_or o (last xs)
last-cons_option xs None = ap last (append-nil xs)
last-cons_option xs (Some x) = last-push xs x

-- the last accepted attribute, with one more
last_given-push : {T : Type 0} (accepted : List ℕ → Option T) (before : List (Bor (List ℕ))) (piece : Bor (List ℕ))
    → last (filter_map accepted (map (λ x. x.now) (before ++ piece ∷ [])))
    ≡ option_or (accepted piece.now) (last (filter_map accepted (map (λ x. x.now) before)))
last_given-push accepted before piece =
    let pieces = map (λ (x : Bor (List ℕ)). x.now) before in
    ap (λ all. last (filter_map accepted all)) (map-append (λ (x : Bor (List ℕ)). x.now) before (piece ∷ []))
    ∙ ap last (filter_map-append accepted pieces (piece.now ∷ []))
    ∙ last-cons_option (filter_map accepted pieces) (accepted piece.now)

-- the same for attributes of one kind
pub last_by-push : {T : Type 0} (syntax : Syntax) (from : List ℕ → List ℕ → Option T) (before : List (Bor (List ℕ))) (piece : Bor (List ℕ))
    → last_by syntax from (map (λ x. x.now) (before ++ piece ∷ []))
    ≡ option_or (accepted_by syntax from piece.now) (last_by syntax from (map (λ x. x.now) before))
last_by-push syntax from before piece = last_given-push (accepted_by syntax from) before piece

-- an attribute that decides, unless it is ignored
decided-push : {T : Type 0} (reads : List ℕ → Option T) (ignored : Bool) (given found : Option (List ℕ))
    → option_and_then reads (option_or (if ignored then None else given) found)
    ≡ (if ignored then option_and_then reads found else decided reads given (option_and_then reads found))
decided-push reads true given found = refl
decided-push reads false None found = refl
decided-push reads false (Some value) found = refl

-- the Domain attribute
pub domain_by-push : (syntax : Syntax) (before : List (Bor (List ℕ))) (piece : Bor (List ℕ))
    → domain_by syntax (map (λ x. x.now) (before ++ piece ∷ []))
    ≡ domain_after syntax piece.now (domain_by syntax (map (λ x. x.now) before))
domain_by-push Rfc6265 before piece = last_given-push (accepted_value domain_from) before piece
domain_by-push Rfc6265bis before piece =
    ap (option_and_then unless_empty) (last_by-push Rfc6265bis (any_named (codes "Domain")) before piece)
    ∙ decided-push unless_empty (is_ignored Rfc6265bis (value_by Rfc6265bis piece.now))
    (any_named (codes "Domain") (name_by Rfc6265bis piece.now) (value_by Rfc6265bis piece.now))
    (last_by Rfc6265bis (any_named (codes "Domain")) (map (λ x. x.now) before))

-- the SameSite attribute
pub same_site_by-push : (syntax : Syntax) (before : List (Bor (List ℕ))) (piece : Bor (List ℕ))
    → same_site_by syntax (map (λ x. x.now) (before ++ piece ∷ []))
    ≡ same_site_after syntax piece.now (same_site_by syntax (map (λ x. x.now) before))
same_site_by-push Rfc6265 before piece = last_given-push (accepted_value same_site_from) before piece
same_site_by-push Rfc6265bis before piece =
    ap (option_and_then site_of) (last_by-push Rfc6265bis (any_named (codes "SameSite")) before piece)
    ∙ decided-push site_of (is_ignored Rfc6265bis (value_by Rfc6265bis piece.now))
    (any_named (codes "SameSite") (name_by Rfc6265bis piece.now) (value_by Rfc6265bis piece.now))
    (last_by Rfc6265bis (any_named (codes "SameSite")) (map (λ x. x.now) before))
