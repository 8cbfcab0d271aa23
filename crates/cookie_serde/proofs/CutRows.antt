-- Rows with each expiry cut to whole seconds, and what their saved forms read as.
use Rattle.std.proofs.Common.{◌≡◌, ℕ, true, List, [], ◌∷◌, ◌++◌, map, Result, Ok, Err, refl, sym, ap, subst, ◌∙◌}
use Rattle.std.specs.List.{All}
use Rattle.std.proofs.lemmas.List.Elements.{All-head, All-map, All-tail, All-weaker}
use Rattle.std.specs.declared.alloc.Global.{Global}
use Rattle.std.specs.declared.string.String.{String}
use Rattle.std.specs.Prelude.{option_map, string_bytes}
use Rattle.serde_json.specs.Data.{Data}
use Rattle.serde_json.specs.Read.{read}
use Rattle.cookie_forms.specs.FromJson.{cut, list_at}
use Rattle.cookie_forms.specs.Saved.{saved_view, HasValidExpiry}
use Rattle.cookie_forms.specs.declared.saved.Saved.{Saved}
use Rattle.cookie_forms.specs.ToJson.{list_written}
use Rattle.cookie_forms.specs.declared.error.SavedError.{SavedError}
use Rattle.cookie_raw.specs.CookieText.{cookie_text}
use Rattle.cookie_raw.specs.SetCookie.{reading}
use Rattle.cookie_parts.specs.Cookie.{Row}
use Rattle.cookie_parts.specs.Expiry.{Expiry, AtUtc, SessionEnd}
use Rattle.cookie_parts.specs.declared.error.Error.{Error}
use Rattle.cookie_parts.specs.SavedConversion.{cookie_of_saved, saved_expires, saved_of}
use Rattle.cookie_laws.specs.Rows.{are_rows, key_of}
use Rattle.cookie_serde.specs.Cuts.{cut_expiry, cut_row, cut_rows, ReadsBack}
use Rattle.cookie_serde.specs.JsonLists.{json_cookies, SerializesToJsonList, SerializesToLines}
use Rattle.cookie_serde.specs.SavedForms.{cookies_of_saved, read_cookies}
use Rattle.cookie_serde.specs.Saving.{line_text}
use Rattle.cookie_serde.proofs.ParsedJson.{list_of_tree}
use Rattle.cookie_forms.specs.MomentText.{whole_seconds}

-- cutting an expiry commutes with saving it
end_cut : (end : Expiry) → saved_expires (cut_expiry end) ≡ option_map whole_seconds (saved_expires end)
end_cut (AtUtc end) = refl
end_cut SessionEnd = refl

-- and with saving its row
saved_cut : (row : Row) → saved_of (cut_row row) ≡ cut (saved_of row)
saved_cut row = rw (end_cut row.expires) refl

-- the cut saved form of a row reads as the cut row
pub row_cut : ((cookie : Row) → reading (cookie_text cookie.raw) ≡ Ok cookie.raw → cookie_of_saved (saved_of cookie) ≡ Ok cookie)
    → (row : Row) → ReadsBack row → cookie_of_saved (cut (saved_of row)) ≡ Ok (cut_row row)
row_cut survives_saving row back = ap cookie_of_saved (sym (saved_cut row)) ∙ survives_saving (cut_row row) back.0

module _ (survives_saving : (cookie : Row) → reading (cookie_text cookie.raw) ≡ Ok cookie.raw → cookie_of_saved (saved_of cookie) ≡ Ok cookie) where
  -- the cut saved forms of rows read as the cut rows
  pub cookies_cut : (rows : List Row) → All ReadsBack rows → cookies_of_saved (map cut (map saved_of rows)) ≡ Ok (cut_rows rows)
  cookies_cut [] all = refl
  cookies_cut (row ∷ rows) all =
      rw (row_cut survives_saving row (All-head ReadsBack row rows all), cookies_cut rows (All-tail ReadsBack row rows all)) refl

  -- a JSON value that reads as these saved forms reads as the cut rows
  tree_comes_back : (rows : List Row) (tree : Data) → All ReadsBack rows → list_at tree ≡ Ok (map cut (map saved_of rows))
      → read_cookies (list_at tree) ≡ Ok (cut_rows rows)
  tree_comes_back rows tree all is = rw (is, cookies_cut rows all) refl

  module _ (blank : (text : List ℕ) → read (text ++ 10 ∷ []) ≡ read text) where
    -- so does the string of the list, with a line feed after it
    text_comes_back : (rows : List Row) (reported : Result Data SavedError) (text : String Global) → All ReadsBack rows
        → ((tree : Data) → reported ≡ Ok tree → list_at tree ≡ Ok (map cut (map saved_of rows)))
        → SerializesToLines reported (Ok text) → json_cookies (line_text text) ≡ Ok (cut_rows rows)
    text_comes_back rows (Ok tree) text all reads (is, is_read) =
        ap read_cookies (list_of_tree (line_text text) tree (blank (string_bytes text) ∙ is_read)) ∙ tree_comes_back rows tree all (reads tree refl)
    text_comes_back rows (Err fault) text all reads written_as = absurd (cc)

    pub said_comes_back : (rows : List Row) (text : String Global) → All ReadsBack rows
        → ((tree : Data) → list_written (map saved_of rows) ≡ Ok tree → list_at tree ≡ Ok (map cut (map saved_of rows)))
        → SerializesToJsonList rows (Ok text) → json_cookies (line_text text) ≡ Ok (cut_rows rows)
    said_comes_back rows text all reads written_as = text_comes_back rows (list_written (map saved_of rows)) text all reads written_as

-- a cut row has the key of the row
keys_cut : (rows : List Row) → map key_of (cut_rows rows) ≡ map key_of rows
keys_cut [] = refl
keys_cut (row ∷ rows) = ap (λ keys. key_of row ∷ keys) (keys_cut rows)

-- so the keys of cut rows differ if those of the rows do
pub rows_cut : (rows : List Row) → are_rows rows ≡ true → are_rows (cut_rows rows) ≡ true
rows_cut rows are = rw (keys_cut rows) are

-- the cookies of a result, none if it is an error
abbrev pub cookies_in : Result (List Row) Error → List Row
cookies_in (Ok cookies) = cookies
cookies_in (Err error) = []

-- the saved forms of rows that have them
pub forms_of : (rows : List Row) → All ReadsBack rows → (forms : List Saved) × (map saved_view forms ≡ map saved_of rows)
forms_of [] all = ([], refl)
forms_of (row ∷ rows) all =
    let back = All-head ReadsBack row rows all in
    let others = forms_of rows (All-tail ReadsBack row rows all) in
    (back.1 ∷ others.0, rw (back.2, others.1) refl)

-- their expiries are valid times, if those of all saved cookies are
module _ (ends : (saved : Saved) → HasValidExpiry (saved_view saved)) where
  pub form_ends : (row : Row) → ReadsBack row → HasValidExpiry (saved_of row)
  form_ends row back = subst HasValidExpiry back.2 (ends back.1)

  pub forms_end : (rows : List Row) → All ReadsBack rows → All HasValidExpiry (map saved_of rows)
  forms_end rows all =
      All-map HasValidExpiry saved_of rows (All-weaker ReadsBack (λ row. HasValidExpiry (saved_of row)) form_ends rows all)
