-- Saved cookies written as JSON are read back.
use Rattle.std.proofs.Common.{◌≡◌, ℕ, List, [], ◌∷◌, map, Bool, false, true≢false, Option, Some, None, Ok, option_map, int_lt, pos, ℤ, negsuc, ◌≤ℤ◌, refl, ap, subst, arith}
use Rattle.std.specs.List.{list_any, All}
use Rattle.std.specs.Prelude.{IfSome}
use Rattle.std.proofs.lemmas.List.Elements.{All-head, All-tail}
use Rattle.serde_json.specs.Data.{Data}
use Rattle.serde_json.specs.View.{items_of}
use Rattle.cookie_words.specs.Moments.{Moment}
use Rattle.cookie_forms.specs.MomentText.{moment_text, whole_seconds}
use Rattle.cookie_forms.specs.Saved.{Domain, host_only, suffix, not_present, empty, Parts, HasValidExpiry, IsValidTime, expiry_view}
use Rattle.cookie_forms.specs.ToJson.{cookie_tree, domain_tree, expiry_tree, path_tree, with_expiry, with_expiry_text, saved_tree, list_tree, expires_early, is_early, written, list_written}
use Rattle.cookie_forms.specs.FromJson.{path_in, domain_in, expiry_in, parts_in, all_parts_in, parsed_expiry, all_with_parsed_expiry, with_parsed_expiry, cut, saved_at, list_at}
use Rattle.cookie_forms.specs.declared.error.SavedError.TheVariants.{Moment as NoMoment}
use Rattle.jiff_core.proofs.SignedLemmas.{signed_arith}
use Rattle.cookie_forms.specs.declared.saved.SavedExpiry.{SavedExpiry}
use Rattle.cookie_forms.specs.declared.saved.SavedExpiry.TheVariants as Expiry
use Rattle.cookie_forms.proofs.MomentsBack.{moment_back}
use Rattle.cookie_forms.proofs.TreesPlain.{cookie_plain, items_plain, first_false, second_false, by_written, same_tree}

pub domain_back : (d : Domain) → domain_in (domain_tree d) ≡ Some d
unfolding domain_in
domain_back (host_only text) = refl
domain_back (suffix text) = refl
domain_back not_present = refl
domain_back empty = refl

pub expires_back : (o : Option (List ℕ)) → expiry_in (expiry_tree o) ≡ Some o
unfolding expiry_in
expires_back None = refl
expires_back (Some text) = refl

pub path_back : (path : List ℕ) (from_attr : Bool) → path_in (path_tree path from_attr) ≡ Some (path, from_attr)
unfolding path_in
path_back path from_attr = refl

parts_back : (p : Parts (List ℕ)) → parts_in (cookie_tree p) ≡ Some p
unfolding parts_in
parts_back p = rw (path_back p.path p.from_attr, domain_back p.domain, expires_back p.expires) refl

-- the expiry of a saved cookie is a valid time
pub end_is_moment : (e : SavedExpiry) → IfSome (expiry_view e) IsValidTime
end_is_moment (Expiry.AtUtc time) = (time, refl)
end_is_moment Expiry.SessionEnd = tt

-- not negative: from the year 0 on
from_zero : (z : ℤ) → int_lt z (pos 0) ≡ false → pos 0 ≤ℤ z
from_zero (pos n) h = omega (arith, signed_arith)
from_zero (negsuc n) h = absurd (true≢false h)

expires_kept : (o : Option Moment) → IfSome o IsValidTime → expires_early o ≡ false
    → parsed_expiry (option_map moment_text o) ≡ Some (option_map whole_seconds o)
expires_kept (Some m) (d, is) h =
    subst (λ m. expires_early (Some m) ≡ false → parsed_expiry (Some (moment_text m)) ≡ Some (Some (whole_seconds m))) is
    (λ early. ap (option_map (λ m. Some m)) (moment_back d (from_zero d.date.year early))) h
expires_kept None _ h = refl

kept : (p : Parts Moment) → HasValidExpiry p → is_early p ≡ false → with_parsed_expiry (with_expiry_text p) ≡ Some (cut p)
kept p at h = ap (option_map (λ expires. with_expiry p expires)) (expires_kept p.expires at h)

all_kept : (ps : List (Parts Moment)) → All HasValidExpiry ps → list_any is_early ps ≡ false
    → all_with_parsed_expiry (map with_expiry_text ps) ≡ Some (map cut ps)
all_kept [] at h = refl
all_kept (p ∷ ps) at h =
    rw (
      kept p (All-head HasValidExpiry p ps at) (first_false (is_early p) _ h),
      all_kept ps (All-tail HasValidExpiry p ps at) (second_false (is_early p) _ h),
    ) refl

items_back : (ps : List (Parts Moment)) → all_parts_in (items_of (map saved_tree ps)) ≡ Some (map with_expiry_text ps)
items_back [] = refl
items_back (p ∷ ps) = rw (parts_back (with_expiry_text p), items_back ps) refl

saved_tree_back : (p : Parts Moment) → HasValidExpiry p → is_early p ≡ false → saved_at (saved_tree p) ≡ Ok (cut p)
saved_tree_back p at h = rw (cookie_plain (with_expiry_text p), parts_back (with_expiry_text p), kept p at h) refl

list_tree_back : (ps : List (Parts Moment)) → All HasValidExpiry ps → list_any is_early ps ≡ false
    → list_at (list_tree ps) ≡ Ok (map cut ps)
list_tree_back ps at h = rw (items_plain ps, items_back ps, all_kept ps at h) refl

pub saved_back : (p : Parts Moment) (tree : Data) → HasValidExpiry p → written p ≡ Ok tree → saved_at tree ≡ Ok (cut p)
saved_back p tree at h =
    subst (λ t. saved_at t ≡ Ok (cut p)) (same_tree (is_early p) NoMoment _ tree h)
    (saved_tree_back p at (by_written (is_early p) NoMoment _ tree h))

pub list_back : (ps : List (Parts Moment)) (tree : Data) → All HasValidExpiry ps → list_written ps ≡ Ok tree
    → list_at tree ≡ Ok (map cut ps)
list_back ps tree at h =
    subst (λ t. list_at t ≡ Ok (map cut ps)) (same_tree (list_any is_early ps) NoMoment _ tree h)
    (list_tree_back ps at (by_written (list_any is_early ps) NoMoment _ tree h))
