-- A printed list is read back as that list, its expiries cut to whole seconds.
use Rattle.std.proofs.Common.{◌≡◌, ℕ, ℤ, pos, negsuc, ◌≤ℤ◌, int_lt, List, [], ◌∷◌, ◌++◌, map, Bool, true, false, true≢false, Some, Ok, Err, is_ok, option_map, if◌then◌else◌, refl, sym, ap, subst, arith}
use Rattle.std.specs.List.{list_any}
use Rattle.jiff_core.proofs.SignedLemmas.{signed_arith}
use Rattle.jiff_core.specs.declared.civil.datetime.DateTime.{DateTime}
use Rattle.cookie_words.specs.Moments.{moment_of}
use Rattle.cookie_forms.specs.MomentText.{parsed_moment, moment_text, whole_seconds}
use Rattle.cookie_forms.specs.FromJson.{all_with_parsed_expiry, cut, parsed_expiry, with_parsed_expiry}
use Rattle.cookie_forms.specs.Saved.{expiry_view, saved_view}
use Rattle.cookie_forms.specs.ToJson.{expires_early, is_early, with_expiry, with_expiry_text}
use Rattle.cookie_forms.specs.declared.error.SavedError.{SavedError}
use Rattle.cookie_forms.specs.declared.error.SavedError.TheVariants as ErrorCase
use Rattle.cookie_forms.specs.declared.saved.Saved.{Saved}
use Rattle.cookie_forms.specs.declared.saved.SavedExpiry.{SavedExpiry}
use Rattle.cookie_forms.specs.declared.saved.SavedExpiry.TheVariants as Expiry
use Rattle.cookie_ron.specs.Printed.{ron_written}
use Rattle.cookie_ron.specs.ParsedRon.{RonParsesTo}
use Rattle.cookie_ron.proofs.Bools.{both_false}
use Rattle.cookie_ron.proofs.PrintedLists.{line_is_list, printed_is_list}

-- the string of a time is parsed as that time, cut to whole seconds
abbrev ReadsBack : Type 0
ReadsBack = (moment : DateTime) → pos 0 ≤ℤ moment.date.year → parsed_moment (moment_text (moment_of moment)) ≡ Some (whole_seconds (moment_of moment))

from_zero : (z : ℤ) → int_lt z (pos 0) ≡ false → pos 0 ≤ℤ z
from_zero (pos n) h = omega (arith, signed_arith)
from_zero (negsuc n) h = absurd (true≢false h)

end_kept : ReadsBack → (e : SavedExpiry) → expires_early (expiry_view e) ≡ false
    → parsed_expiry (option_map moment_text (expiry_view e)) ≡ Some (option_map whole_seconds (expiry_view e))
end_kept back (Expiry.AtUtc time) h = ap (option_map (λ m. Some m)) (back time (from_zero time.date.year h))
end_kept back Expiry.SessionEnd h = refl

kept : ReadsBack → (s : Saved) → is_early (saved_view s) ≡ false → with_parsed_expiry (with_expiry_text (saved_view s)) ≡ Some (cut (saved_view s))
kept back s h = ap (option_map (λ expires. with_expiry (saved_view s) expires)) (end_kept back s.expires h)

all_kept : ReadsBack → (list : List Saved) → list_any is_early (map saved_view list) ≡ false
    → all_with_parsed_expiry (map with_expiry_text (map saved_view list)) ≡ Some (map cut (map saved_view list))
all_kept back [] h = refl
all_kept back (s ∷ list) h =
    let none = both_false (is_early (saved_view s)) (list_any is_early (map saved_view list)) h in
    rw (kept back s none.0, all_kept back list none.1) refl

-- what is printed if there is no error
printed_of : (early : Bool) (fault : SavedError) (printed text : List ℕ) → (if early then Err fault else Ok printed) ≡ Ok text
    → (early ≡ false) × (printed ≡ text)
printed_of true fault printed text h = absurd (true≢false (sym (ap is_ok h)))
printed_of false fault printed text h = (refl, cc)

pub read_back : ReadsBack → (list : List Saved) (text : List ℕ) → ron_written (map saved_view list) ≡ Ok text
    → RonParsesTo text (Ok (map cut (map saved_view list)))
read_back back list text h =
    let is = printed_of (list_any is_early (map saved_view list)) ErrorCase.Moment _ text h in
    subst (λ t. RonParsesTo t (Ok (map cut (map saved_view list)))) is.1
    (map with_expiry_text (map saved_view list), printed_is_list list, all_kept back list is.0)

-- the same with a line feed after it
pub line_back : ReadsBack → (list : List Saved) (text : List ℕ) → ron_written (map saved_view list) ≡ Ok text
    → RonParsesTo (text ++ 10 ∷ []) (Ok (map cut (map saved_view list)))
line_back back list text h =
    let is = printed_of (list_any is_early (map saved_view list)) ErrorCase.Moment _ text h in
    subst (λ t. RonParsesTo (t ++ 10 ∷ []) (Ok (map cut (map saved_view list)))) is.1
    (map with_expiry_text (map saved_view list), line_is_list list, all_kept back list is.0)
