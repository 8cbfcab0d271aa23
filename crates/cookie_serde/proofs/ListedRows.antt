-- Rows that are iterated into a list, and cookies that come as a list.
use Rattle.std.proofs.Common.{◌≡◌, ℕ, ◌+◌, Bool, true, List, [], ◌∷◌, ◌++◌, filter, Option, Result, Ok, Err, IfOk, IfErr, OnErr, OnOk, IsTrue, inl, inr, map, Bor, refl, sym, ap, append_assoc, ◌∙◌}
use Rattle.std.specs.Io.KnownBytes.{Appends, IsAtEnd}
use Rattle.std.specs.Prelude.{◌≢◌}
use Rattle.std.specs.Result.{result_map_both}
use Rattle.std.specs.Str.{is_utf8}
use Rattle.std.specs.declared.alloc.Global.{Global}
use Rattle.std.specs.declared.string.String.{String}
use Rattle.std.specs.declared.vec.Vec.{Vec}
use Rattle.cookie_words.specs.Moments.{Moment}
use Rattle.cookie_device.specs.Device.{AppendsPrefix, SinkState, SourceState}
use Rattle.cookie_forms.specs.Saved.{Parts}
use Rattle.cookie_parts.specs.Cookie.{Row}
use Rattle.cookie_parts.specs.SavedConversion.{cookie_of_saved}
use Rattle.cookie_parts.specs.declared.cookie_error.CookieError.{CookieError}
use Rattle.cookie_parts.specs.declared.error.Error.{Error}
use Rattle.cookie_parts.specs.declared.error.Error.TheVariants.{Io}
use Rattle.cookie_laws.specs.Rows.{RowsInOrder}
use Rattle.cookie_serde.specs.declared.which.Which.{Which}
use Rattle.cookie_serde.specs.SavedForms.{cookies_of_saved}
use Rattle.cookie_serde.specs.SavedLists.{BuildsFromList, BuildsFromText, FailsAtText, FailsToLoadList, FailsToSaveList, IsAll, ParsesToCookies, ParsesToVec, RejectsText, WritesList}
use Rattle.cookie_serde.specs.Saving.{line_text}
use Rattle.cookie_serde.proofs.SavedLines.{filter_around}
use Rattle.cookie_core.proofs.Walked.{around}

-- a list with an item is not empty
with_item : {A : Type 0} (before : List A) (x : A) (after : List A) → before ++ x ∷ after ≢ []
with_item [] x after is = absurd (cc)
with_item (y ∷ before) x after is = absurd (cc)

-- a filter keeps something if one item passes
pub some_kept : {A : Type 0} (kept : A → Bool) (all before : List A) (x : A) (after : List A) → all ≡ before ++ x ∷ after → kept x ≡ true
    → filter kept all ≢ []
some_kept kept all before x after is passes none =
    with_item (filter kept before) x (filter kept after) (sym (ap (filter kept) is ∙ filter_around kept before x after passes) ∙ none)

-- a filter keeps something if an item reached by the iteration passes
pub some_walked : {A : Type 0} (kept : A → Bool) (all : List A) (done : List (Bor A)) (x : Bor A) (left after : List A) → left ≡ x.now ∷ after
    → map (λ c. c.now) done ++ left ≡ all → kept x.now ≡ true → filter kept all ≢ []
some_walked kept all done x left after step so_far passes =
    some_kept kept all (map (λ c. c.now) done) x.now after (around done x left after all step so_far) passes

-- what always holds also holds on an error
pub on_error : {T E P : Type 0} (expected : Result T E) → P → OnErr expected P
on_error (Ok done) holds = tt
on_error (Err error) holds = holds

module _ (Parses : List ℕ → Result (Vec Row Global) Error → Type 0) where
  -- the cookies that a function returns for a string are those that it may return
  pub parsed_at_once : (text : List ℕ) (expected : Result (Vec Row Global) Error) → IsTrue (is_utf8 text) → Parses text expected
      → IfOk expected (λ cookies. ParsesToCookies (ParsesToVec Parses) text cookies.items)
  parsed_at_once text (Ok cookies) valid answers = (valid, (Ok cookies, answers, refl))
  parsed_at_once text (Err error) valid answers = tt

  -- and if it returns an error, the string is rejected
  pub rejected_at_once : (text : List ℕ) (expected : Result (Vec Row Global) Error) → IsTrue (is_utf8 text) → Parses text expected
      → IfErr expected (λ error. RejectsText (ParsesToVec Parses) error text)
  rejected_at_once text (Ok cookies) valid answers = tt
  rejected_at_once text (Err error) valid answers = inr (valid, (Err error, answers, refl))

module _ (Parses : List ℕ → Result (List Row) Error → Type 0) (old : SourceState) (text : List ℕ) (all : IsAll old.remaining text) (valid : IsTrue (is_utf8 text)) where
  -- rows built from all bytes of the source, as a string
  pub list_built : (which : Which) (expected : Result RowsInOrder Error)
      → IfOk expected (BuildsFromText Parses text which) → IfOk expected (BuildsFromList Parses old.remaining which)
  list_built which (Ok kept) (cookies, parsed, is) = (text, cookies, all, (valid, parsed), is)
  list_built which (Err error) built = tt

  -- or the error of that string, once all was read
  pub list_rejected : {T : Type 0} (expected : Result T Error) (new : SourceState) → IsAtEnd new.remaining → new.failed ≡ old.failed
      → IfErr expected (λ error. FailsAtText Parses error text) → IfErr expected (λ error. FailsToLoadList Parses error old new)
  list_rejected (Ok rows) new end count failed = tt
  list_rejected (Err error) new end count (inl rejected) = inl ((text, all, inl (inr (valid, rejected))), end, count)
  list_rejected (Err error) new end count (inr (is, cookies, parsed, some)) = inl ((text, all, inr (is, cookies, (valid, parsed), some)), end, count)

module _ (Serializes : List Row → Result (String Global) Error → Type 0) (rows : List Row) (text : String Global) (said : Serializes rows (Ok text)) {T : Type 0} where
  -- the string of the rows and a line feed were written
  pub list_written : (expected : Result T Error) (old new : Option (List ℕ)) → OnOk expected (Appends old new (line_text text))
      → OnOk expected (WritesList Serializes rows old new)
  list_written (Ok done) old new appended = (text, said, appended)
  list_written (Err error) old new appended = tt

  -- or a beginning of them
  pub list_begun : (expected : Result T Error) (old new : SinkState)
      → IfErr expected (λ error. AppendsPrefix old.contents new.contents (line_text text) × (error ≡ Io) × (new.failed ≡ old.failed + 1))
      → IfErr expected (λ error. FailsToSaveList Serializes error rows old new)
  list_begun (Ok done) old new begun = tt
  list_begun (Err error) old new (begun, is, count) = inr (text, said, begun, is, count)

-- a cookie in front of others is moved to the end of those before
moved_over : (done : List Row) (cookie : Row) (others : Result (List Row) CookieError)
    → result_map_both (λ cookies. done ++ cookies) (λ fault. fault) (result_map_both (λ cookies. cookie ∷ cookies) (λ fault. fault) others)
    ≡ result_map_both (λ cookies. (done ++ cookie ∷ []) ++ cookies) (λ fault. fault) others
moved_over done cookie (Ok cookies) = ap Ok (sym (append_assoc done (cookie ∷ []) cookies))
moved_over done cookie (Err fault) = refl

-- after the cookie of the first saved form
pub form_done : (done : List Row) (cookie : Row) (form : Parts Moment) (forms : List (Parts Moment)) → cookie_of_saved form ≡ Ok cookie
    → result_map_both (λ cookies. done ++ cookies) (λ fault. fault) (cookies_of_saved (form ∷ forms))
    ≡ result_map_both (λ cookies. (done ++ cookie ∷ []) ++ cookies) (λ fault. fault) (cookies_of_saved forms)
form_done done cookie form forms is = rw is (moved_over done cookie (cookies_of_saved forms))
