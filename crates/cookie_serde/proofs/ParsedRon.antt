-- What a list in RON reads as.
use Rattle.std.proofs.Common.{◌≡◌, ℕ, List, [], Result, Ok, Err, inl, inr, refl, sym, ◌∙◌}
use Rattle.std.specs.Prelude.{◌≢◌, ◌⊎◌, IfOk, IfErr}
use Rattle.std.specs.Result.{result_map_both}
use Rattle.std.specs.declared.alloc.Global.{Global}
use Rattle.std.specs.declared.vec.Vec.{Vec}
use Rattle.cookie_words.specs.Moments.{Moment}
use Rattle.cookie_forms.specs.Saved.{Parts}
use Rattle.cookie_forms.specs.declared.saved.Saved.{Saved}
use Rattle.cookie_forms.specs.declared.error.SavedError.{SavedError}
use Rattle.cookie_forms.specs.declared.error.SavedError.TheVariants as ErrorCase
use Rattle.cookie_ron.specs.ParsedRon.{RonParsesTo}
use Rattle.cookie_laws.specs.Rows.{RowsInOrder}
use Rattle.cookie_parts.specs.Errors.{error_from_saved}
use Rattle.cookie_parts.specs.declared.error.Error.{Error}
use Rattle.cookie_parts.specs.declared.error.Error.TheVariants.{Cookie, Memory}
use Rattle.cookie_serde.specs.RonLists.{RonListParsesTo}
use Rattle.cookie_serde.specs.SavedForms.{cookies_of_saved, BuildsFromSaved}
use Rattle.cookie_serde.specs.SavedLists.{BuildsFromText, FailsAtText}
use Rattle.cookie_serde.specs.declared.which.Which.{Which}

module _ (text : List ℕ) (result : Result (Vec Saved Global) SavedError) (empty : text ≡ [] → result ≡ Err ErrorCase.Ron) where
  is_some : (e : SavedError) → result ≡ Err e → e ≡ ErrorCase.Memory → text ≢ []
  is_some e reported memory none = let fault = sym reported ∙ empty none in absurd (cc)

  -- the rows of a list
  pub ron_built : (list : List (Parts Moment)) (which : Which) (built : Result RowsInOrder Error) → RonParsesTo text (Ok list)
      → IfOk built (BuildsFromSaved list which) → IfOk built (BuildsFromText RonListParsesTo text which)
  ron_built list which (Ok rows) parses (cookies, are, built) = (cookies, (Ok list, parses, rw are refl), built)
  ron_built list which (Err error) parses built = tt

  -- and the error of one that has no cookies
  pub ron_refused : {T : Type 0} (saved : Vec Saved Global) → result ≡ Ok saved → (list : List (Parts Moment)) (built : Result T Error)
      → RonParsesTo text (Ok list)
      → IfErr built (λ error. (error ≡ Memory) ⊎ (result_map_both (λ cookies. cookies) Cookie (cookies_of_saved list) ≡ Err error))
      → IfErr built (λ error. FailsAtText RonListParsesTo error text)
  ron_refused saved read list (Ok rows) parses refused = tt
  ron_refused saved read list (Err error) parses (inl memory) = inl (inr (memory, λ none. let clash = sym read ∙ empty none in absurd (cc)))
  ron_refused saved read list (Err error) parses (inr refused) = inl (inl (Ok list, parses, sym refused))

  -- and the error of parsing the string is the error of reading it
  pub ron_error : (fault : SavedError) → result ≡ Err fault → (fault ≡ ErrorCase.Memory) ⊎ RonParsesTo text (Err fault)
      → RonListParsesTo text (Err (error_from_saved fault))
  ron_error fault reported (inl memory) = rw memory (inr (refl, is_some fault reported memory))
  ron_error fault reported (inr (inl (ron, none))) = rw ron (inl (Err ErrorCase.Ron, inl (refl, none), refl))
  ron_error fault reported (inr (inr (moment, parts, are, none))) = rw moment (inl (Err ErrorCase.Moment, inr (refl, parts, are, none), refl))
