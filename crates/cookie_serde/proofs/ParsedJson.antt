-- What a line of JSON, and a JSON array, read as.
use Rattle.std.proofs.Common.{◌≡◌, ℕ, List, [], Result, Ok, Err, Some, None, inl, inr, refl, sym, ◌∙◌, ap}
use Rattle.std.specs.Prelude.{◌≢◌, ◌⊎◌, IfOk, IfErr}
use Rattle.std.specs.Result.{result_map_both}
use Rattle.serde_json.proofs.OnLiterals.{serde_json_on_literals}
use Rattle.serde_json.specs.Data.{Data}
use Rattle.serde_json.specs.Read.{read}
use Rattle.cookie_words.specs.Moments.{Moment}
use Rattle.cookie_forms.specs.FromJson.{list_at, list_in, saved_at, saved_in}
use Rattle.cookie_forms.specs.Saved.{Parts}
use Rattle.cookie_forms.specs.declared.error.SavedError.{SavedError}
use Rattle.cookie_forms.specs.declared.error.SavedError.TheVariants as ErrorCase
use Rattle.cookie_parts.specs.Cookie.{Row}
use Rattle.cookie_parts.specs.Errors.{error_from_saved}
use Rattle.cookie_parts.specs.SavedConversion.{cookie_of_saved}
use Rattle.cookie_parts.specs.declared.cookie_error.CookieError.TheVariants.{Parse}
use Rattle.cookie_parts.specs.declared.error.Error.{Error}
use Rattle.cookie_parts.specs.declared.error.Error.TheVariants.{Cookie, Memory}
use Rattle.cookie_serde.specs.JsonLines.{JsonParsesTo}
use Rattle.cookie_serde.specs.JsonLists.{JsonListParsesTo}
use Rattle.cookie_serde.specs.SavedForms.{cookies_of_saved, read_cookie, read_cookies}
use Rattle.cookie_serde.specs.SavedLists.{FailsAtText}

nothing_read : read [] ≡ None
unfolding serde_json_on_literals
nothing_read = refl

module _ {T : Type 0} (parsed : List ℕ → Result T SavedError) (none_parsed : parsed [] ≡ Err ErrorCase.Json) where
  -- a string that is parsed is not empty
  some_parsed : (text : List ℕ) (value : T) → parsed text ≡ Ok value → text ≢ []
  some_parsed text value is none = let clash : Err ErrorCase.Json ≡ Ok value = sym none_parsed ∙ ap parsed (sym none) ∙ is in absurd (cc)

  -- nor is one whose error is out of memory
  some_failed : (text : List ℕ) → parsed text ≡ Err ErrorCase.Memory → text ≢ []
  some_failed text is none = let clash : Err ErrorCase.Json ≡ Err ErrorCase.Memory = sym none_parsed ∙ ap parsed (sym none) ∙ is in absurd (cc)

no_saved : saved_in [] ≡ Err ErrorCase.Json
no_saved = rw (saved_in, nothing_read) refl

no_list : list_in [] ≡ Err ErrorCase.Json
no_list = rw (list_in, nothing_read) refl

-- a string that reads as a JSON value is the saved form, or the list, of that value
pub saved_of_tree : (text : List ℕ) (tree : Data) → read text ≡ Some tree → saved_in text ≡ saved_at tree
saved_of_tree text tree is = rw (saved_in, is) refl

pub list_of_tree : (text : List ℕ) (tree : Data) → read text ≡ Some tree → list_in text ≡ list_at tree
list_of_tree text tree is = rw (list_in, is) refl

-- the cookie of a line that is a saved form
pub saved_parses : (line : List ℕ) (saved : Parts Moment) (expected : Result Row Error) → saved_in line ≡ Ok saved
    → IfOk expected (λ cookie. cookie_of_saved saved ≡ Ok cookie)
    → IfErr expected (λ error. (error ≡ Memory) ⊎ ((error ≡ Cookie Parse) × (cookie_of_saved saved ≡ Err Parse))) → JsonParsesTo line expected
saved_parses line saved (Ok cookie) is created refused = ap read_cookie is ∙ ap (result_map_both (λ cookie. cookie) Cookie) created
saved_parses line saved (Err error) is created (inl memory) = inr (memory, some_parsed saved_in no_saved line saved is)
saved_parses line saved (Err error) is created (inr (parse, refused)) =
    inl (ap read_cookie is ∙ ap (result_map_both (λ cookie. cookie) Cookie) refused ∙ ap Err (sym parse))

-- and the error of a line that is not
pub saved_error : (line : List ℕ) (fault : SavedError) → (saved_in line ≡ Err fault) ⊎ ((fault ≡ ErrorCase.Memory) × (line ≢ []))
    → JsonParsesTo line (Err (error_from_saved fault))
saved_error line fault (inr (memory, some)) = rw memory (inr (refl, some))
saved_error line ErrorCase.Memory (inl is) = inr (refl, some_failed saved_in no_saved line is)
saved_error line ErrorCase.Json (inl is) = inl (ap read_cookie is)
saved_error line ErrorCase.Shape (inl is) = inl (ap read_cookie is)
saved_error line ErrorCase.Ron (inl is) = inl (ap read_cookie is)
saved_error line ErrorCase.Moment (inl is) = inl (ap read_cookie is)

-- the error of a list that has no cookies
pub list_refused : {T : Type 0} (text : List ℕ) (list : List (Parts Moment)) (built : Result T Error) → list_in text ≡ Ok list
    → IfErr built (λ error. (error ≡ Memory) ⊎ (result_map_both (λ cookies. cookies) Cookie (cookies_of_saved list) ≡ Err error))
    → IfErr built (λ error. FailsAtText JsonListParsesTo error text)
list_refused text list (Ok rows) is refused = tt
list_refused text list (Err error) is (inl memory) = inl (inr (memory, some_parsed list_in no_list text list is))
list_refused text list (Err error) is (inr refused) = inl (inl (ap read_cookies is ∙ refused))
