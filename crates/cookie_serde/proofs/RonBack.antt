-- What a list in RON, saved from rows, reads as.
use Rattle.std.proofs.Common.{◌≡◌, ℕ, List, [], ◌∷◌, ◌++◌, map, Result, Ok, Err, refl, sym, ap, subst, ◌∙◌}
use Rattle.std.specs.List.{All}
use Rattle.std.specs.Prelude.{string_bytes}
use Rattle.std.specs.declared.alloc.Global.{Global}
use Rattle.std.specs.declared.string.String.{String}
use Rattle.cookie_raw.specs.CookieText.{cookie_text}
use Rattle.cookie_raw.specs.SetCookie.{reading}
use Rattle.cookie_forms.specs.FromJson.{cut}
use Rattle.cookie_forms.specs.Saved.{saved_view}
use Rattle.cookie_forms.specs.declared.error.SavedError.{SavedError}
use Rattle.cookie_forms.specs.declared.saved.Saved.{Saved}
use Rattle.cookie_ron.specs.Printed.{ron_written}
use Rattle.cookie_ron.specs.ParsedRon.{RonParsesTo}
use Rattle.cookie_parts.specs.Cookie.{Row}
use Rattle.cookie_parts.specs.SavedConversion.{cookie_of_saved, saved_of}
use Rattle.cookie_serde.specs.Cuts.{cut_rows, ReadsBack}
use Rattle.cookie_serde.specs.RonLists.{RonCookies, SerializesToText, SerializesToRonList}
use Rattle.cookie_serde.specs.Saving.{line_text}
use Rattle.cookie_serde.proofs.CutRows.{cookies_cut, forms_of}

-- the string that is saved is that of the list
text_said : (reported : Result (List ℕ) SavedError) (text : String Global) → SerializesToText reported (Ok text) → reported ≡ Ok (string_bytes text)
text_said (Ok written) text written_as = ap Ok (sym written_as)
text_said (Err fault) text written_as = absurd (cc)

module _ (survives_saving : (cookie : Row) → reading (cookie_text cookie.raw) ≡ Ok cookie.raw → cookie_of_saved (saved_of cookie) ≡ Ok cookie)
    (reads_back : (list : List Saved) (text : List ℕ) → ron_written (map saved_view list) ≡ Ok text
    → RonParsesTo (text ++ 10 ∷ []) (Ok (map cut (map saved_view list)))) where
  pub ron_back : (rows : List Row) (text : String Global) → All ReadsBack rows → SerializesToRonList rows (Ok text)
      → RonCookies (line_text text) (Ok (cut_rows rows))
  ron_back rows text all written_as =
      let forms = forms_of rows all in
      let written = ap ron_written forms.1 ∙ text_said (ron_written (map saved_of rows)) text written_as in
      let reported = subst (λ list. RonParsesTo (line_text text) (Ok (map cut list))) forms.1 (reads_back forms.0 (string_bytes text) written) in
      (Ok (map cut (map saved_of rows)), reported, rw (cookies_cut survives_saving rows all) refl)
