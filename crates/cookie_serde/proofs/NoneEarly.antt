-- Cookies loaded from lines of JSON do not expire before the year 0, nor do the rows built from them.
use Rattle.std.proofs.Common.{◌≡◌, ℕ, Bool, true, false, not, ◌&&◌, ◌||◌, List, [], ◌∷◌, map, Option, Some, None, option_map, Result, Ok, Err, int_lt, pos, refl, ap, subst, ◌∙◌, arith, if◌then◌else◌, drop}
use Rattle.std.specs.List.{list_any}
use Rattle.std.proofs.lemmas.Bool.{or_parts, cond_both}
use Rattle.std.proofs.lemmas.Bool.Decides.{nat_tests}
use Rattle.std.proofs.lemmas.Option.{cond_some, option_and_then_some}
use Rattle.std.specs.Option.{ok_or}
use Rattle.std.specs.Result.{result_map_both}
use Rattle.serde_json.specs.Data.{Data}
use Rattle.serde_json.specs.Read.{read}
use Rattle.serde_json.specs.Written.{has_float}
use Rattle.cookie_words.specs.Moments.{Moment}
use Rattle.cookie_forms.specs.MomentText.{fraction_of, parsed_moment, number_in}
use Rattle.cookie_forms.specs.FromJson.{parsed_expiry, parts_in, saved_at, then_read, with_parsed_expiry}
use Rattle.cookie_forms.specs.Saved.{Parts}
use Rattle.cookie_forms.specs.ToJson.{expires_early, is_early}
use Rattle.cookie_forms.specs.declared.error.SavedError.{SavedError}
use Rattle.cookie_forms.specs.declared.error.SavedError.TheVariants as ErrorCase
use Rattle.cookie_parts.specs.Cookie.{Row, and_then, raw_cookie}
use Rattle.cookie_parts.specs.SavedConversion.{cookie_of_saved, domain_of_saved, expires_of_saved, saved_expires, saved_of}
use Rattle.cookie_parts.specs.declared.cookie_error.CookieError.{CookieError}
use Rattle.cookie_parts.specs.declared.error.Error.TheVariants.{Cookie, Saved}
use Rattle.cookie_laws.specs.Rows.{after_last, changed, has_key, in_domain, in_group, key_of, placed, put, put_all, replaced}
use Rattle.cookie_raw.specs.Raw.{Raw}
use Rattle.cookie_serde.specs.JsonLines.{JsonParsesTo}
use Rattle.cookie_serde.specs.Loading.{AreCookies}
use Rattle.cookie_serde.specs.Migration.{HaveSavedForms}
use Rattle.cookie_serde.specs.SavedForms.{read_cookie}

-- no time that a string can write is before the year 0
none_before : (n : ℕ) → int_lt (pos n) (pos 0) ≡ false
none_before n = grind (arith, nat_tests)

read_from_zero : (text : List ℕ) (m : Moment) → parsed_moment text ≡ Some m → int_lt m.year (pos 0) ≡ false
unfolding parsed_moment
read_from_zero text m is =
    option_and_then_some _ (number_in text 0 4) m is (λ year _ is.
    option_and_then_some _ (number_in text 5 2) m is (λ month _ is.
    option_and_then_some _ (number_in text 8 2) m is (λ day _ is.
    option_and_then_some _ (number_in text 11 2) m is (λ hour _ is.
    option_and_then_some _ (number_in text 14 2) m is (λ minute _ is.
    option_and_then_some _ (number_in text 17 2) m is (λ second _ is.
    option_and_then_some _ (fraction_of (drop 19 text)) m is (λ nanosecond _ is.
    subst (λ (m : Moment). int_lt m.year (pos 0) ≡ false) (cond_some _ _ m is).1 (none_before year))))))))

read_end : (moment : Option Moment) (end : Option Moment) → ((m : Moment) → moment ≡ Some m → int_lt m.year (pos 0) ≡ false)
    → option_map (λ m. Some m) moment ≡ Some end → expires_early end ≡ false
read_end None end early is = absurd (cc)
read_end (Some m) None early is = refl
read_end (Some m) (Some n) early is = let same : m ≡ n = cc in subst (λ (m : Moment). int_lt m.year (pos 0) ≡ false) same (early m refl)

ends_late : (expires : Option (List ℕ)) (end : Option Moment) → parsed_expiry expires ≡ Some end → expires_early end ≡ false
ends_late None None is = refl
ends_late None (Some m) is = absurd (cc)
ends_late (Some text) end is = read_end (parsed_moment text) end (read_from_zero text) is

of_moment : (parts : Parts (List ℕ)) (expires : Option (Option Moment)) (saved : Parts Moment) → ((end : Option Moment) → expires ≡ Some end → expires_early end ≡ false)
    → option_map (λ end. record { raw_cookie = parts.raw_cookie; path = parts.path; from_attr = parts.from_attr; domain = parts.domain; expires = end }) expires ≡ Some saved
    → is_early saved ≡ false
of_moment parts None saved late is = absurd (cc)
of_moment parts (Some end) saved late is = let same : end ≡ saved.expires = cc in subst (λ e. expires_early e ≡ false) same (late end refl)

of_parts : (parts : Option (Parts (List ℕ))) (saved : Parts Moment) → then_read with_parsed_expiry parts ≡ Ok saved → is_early saved ≡ false
of_parts None saved is = absurd (cc)
of_parts (Some parts) saved is = of_moment parts (parsed_expiry parts.expires) saved (ends_late parts.expires) (read_ok (with_parsed_expiry parts) saved is)
  where
    read_ok : (read : Option (Parts Moment)) (saved : Parts Moment) → ok_or read ErrorCase.Moment ≡ Ok saved → read ≡ Some saved
    read_ok None saved is = absurd (cc)
    read_ok (Some other) saved is = let same : other ≡ saved = cc in ap Some same

of_tree : (float : Bool) (parts : Option (Parts (List ℕ))) (saved : Parts Moment)
    → (if float then Err ErrorCase.Shape else then_read with_parsed_expiry parts) ≡ Ok saved → is_early saved ≡ false
of_tree true parts saved is = absurd (cc)
of_tree false parts saved is = of_parts parts saved is

-- nor does a saved cookie read from a JSON value expire before it
of_saved_tree : (tree : Data) (saved : Parts Moment) → saved_at tree ≡ Ok saved → is_early saved ≡ false
of_saved_tree tree saved is = of_tree (has_float tree) (parts_in tree) saved is

ends_back : (expires : Option Moment) → saved_expires (expires_of_saved expires) ≡ expires
ends_back None = refl
ends_back (Some end) = refl

-- nor its cookie
of_raw : (raw : Result Raw CookieError) (saved : Parts Moment) (cookie : Row) → is_early saved ≡ false
    → and_then raw (λ raw. Ok (record {
      raw = raw;
      domain = domain_of_saved saved.domain;
      path = record { text = saved.path; is_from_attribute = saved.from_attr };
      expires = expires_of_saved saved.expires;
    })) ≡ Ok cookie → is_early (saved_of cookie) ≡ false
of_raw (Err rejection) saved cookie late is = absurd (cc)
of_raw (Ok raw) saved cookie late is =
    let same : expires_of_saved saved.expires ≡ cookie.expires = cc in
    subst (λ end. expires_early (saved_expires end) ≡ false) same (rw (ends_back saved.expires) late)

of_cookie : (reported : Result Row CookieError) (cookie : Row) → result_map_both (λ cookie. cookie) Cookie reported ≡ Ok cookie → reported ≡ Ok cookie
of_cookie (Ok other) cookie is = let same : other ≡ cookie = cc in ap Ok same
of_cookie (Err rejection) cookie is = absurd (cc)

of_saved : (reported : Result (Parts Moment) SavedError) (cookie : Row) → ((saved : Parts Moment) → reported ≡ Ok saved → is_early saved ≡ false)
    → and_then (result_map_both (λ saved. saved) Saved reported) (λ saved. result_map_both (λ cookie. cookie) Cookie (cookie_of_saved saved)) ≡ Ok cookie
    → is_early (saved_of cookie) ≡ false
of_saved (Err fault) cookie late is = absurd (cc)
of_saved (Ok saved) cookie late is =
    of_raw (raw_cookie saved.raw_cookie) saved cookie (late saved refl) (of_cookie (cookie_of_saved saved) cookie is)

of_read : (tree : Option Data) (cookie : Row)
    → read_cookie (elim tree [ None ↦ Err ErrorCase.Json | Some tree ↦ saved_at tree ]) ≡ Ok cookie
    → is_early (saved_of cookie) ≡ false
of_read None cookie is = absurd (cc)
of_read (Some tree) cookie is = of_saved (saved_at tree) cookie (of_saved_tree tree) is

-- the row expires before the year 0
abbrev ends_before : Row → Bool
ends_before row = is_early (saved_of row)

-- no cookie loaded from lines does
none_made : (texts : List (List ℕ)) (cookies : List Row) → AreCookies JsonParsesTo texts cookies → list_any ends_before cookies ≡ false
none_made [] [] created = refl
none_made [] (cookie ∷ cookies) created = absurd created
none_made (text ∷ texts) [] created = absurd created
none_made (text ∷ texts) (cookie ∷ cookies) ((valid, is), others) =
    rw (of_read (read text) cookie is, none_made texts cookies others) refl

-- if no row and not the cookie passes a test, no row passes after the cookie is inserted
module _ (test : Row → Bool) where
  none_after : (last : Row → Bool) (rows : List Row) (cookie : Row) → list_any test rows ≡ false → test cookie ≡ false
      → list_any test (after_last last rows cookie) ≡ false
  none_after last [] cookie none passes = rw passes refl
  none_after last (row ∷ rows) cookie none passes =
      let (first, others) = or_parts (test row) (list_any test rows) none in
      cond_both (last row && not (list_any last rows)) (row ∷ cookie ∷ rows) (row ∷ after_last last rows cookie) (λ rows. list_any test rows ≡ false)
      (λ is. rw (first, passes, others) refl)
      (λ is. rw (first, none_after last rows cookie others passes) refl)

  none_replaced : (same : Row → Bool) (rows : List Row) (cookie : Row) → list_any test rows ≡ false → test cookie ≡ false
      → list_any test (changed same (λ _. cookie) rows) ≡ false
  none_replaced same [] cookie none passes = refl
  none_replaced same (row ∷ rows) cookie none passes =
      let (first, others) = or_parts (test row) (list_any test rows) none in
      cond_both (same row) (cookie ∷ rows) (row ∷ changed same (λ _. cookie) rows) (λ rows. list_any test rows ≡ false)
      (λ is. rw (passes, others) refl)
      (λ is. rw (first, none_replaced same rows cookie others passes) refl)

  none_put : (rows : List Row) (cookie : Row) → list_any test rows ≡ false → test cookie ≡ false → list_any test (put rows cookie) ≡ false
  none_put rows cookie none passes =
      let key = key_of cookie in
      cond_both (list_any (has_key key) rows) (replaced (has_key key) rows cookie) (placed rows cookie) (λ rows. list_any test rows ≡ false)
      (λ is. none_replaced (has_key key) rows cookie none passes)
      (λ is. cond_both (list_any (in_group key) rows) (after_last (in_group key) rows cookie) (after_last (in_domain key) rows cookie)
      (λ rows. list_any test rows ≡ false)
      (λ is. none_after (in_group key) rows cookie none passes)
      (λ is. none_after (in_domain key) rows cookie none passes))

  none_put_all : (rows cookies : List Row) → list_any test rows ≡ false → list_any test cookies ≡ false → list_any test (put_all rows cookies) ≡ false
  none_put_all rows [] none nots = none
  none_put_all rows (cookie ∷ cookies) none nots =
      let (passes, others) = or_parts (test cookie) (list_any test cookies) nots in
      none_put_all (put rows cookie) cookies (none_put rows cookie none passes) others

of_forms : (rows : List Row) → list_any is_early (map saved_of rows) ≡ list_any ends_before rows
of_forms [] = refl
of_forms (row ∷ rows) = ap (λ b. ends_before row || b) (of_forms rows)

-- so no row built from such cookies does
pub none_built : (texts : List (List ℕ)) (cookies : List Row) → AreCookies JsonParsesTo texts cookies → HaveSavedForms (put_all [] cookies)
none_built texts cookies created = of_forms (put_all [] cookies) ∙ none_put_all ends_before [] cookies refl (none_made texts cookies created)
