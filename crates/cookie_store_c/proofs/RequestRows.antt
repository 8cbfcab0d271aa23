-- The cookies of a request, and what is written of them.
use Rattle.std.proofs.Common.{◌≡◌, ◌⊎◌, ℕ, ℤ, List, Option, Some, Result, Ok, Err, IsOk, IsSome, ap, inl, inr, refl, subst, sym, ◌∙◌}
use Rattle.std.specs.Result.{result_map_both}
use Rattle.url.specs.Parts.{Parts}
use Rattle.cookie_words.specs.Moments.{Moment}
use Rattle.cookie_parts.specs.Cookie.{Row}
use Rattle.cookie_laws.specs.Contents.{Contents}
use Rattle.cookie_strict.specs.declared.context.Context.{Context}
use Rattle.cookie_store_c.specs.CookieRows.{BufferOutcome, IsRequestRows, IsRequestRowsIn, IsTooLong, WritesSomeRows, nothing_written, rows_outcome}
use Rattle.cookie_store_c.specs.Inputs.{request, text_and_time}
use Rattle.cookie_store_c.specs.declared.cookie_row.CookieRow.{CookieRow}
use Rattle.cookie_store_c.specs.declared.status.Status.{Status}
use Rattle.cookie_store_c.specs.declared.status.Status.TheVariants.{NoMemory}
use Rattle.cookie_store_c.proofs.WrittenHeaders.{first_is_ok}

-- a result whose value is viewed
abbrev viewed : {A B : Type 0} → (A → B) → Result A Status → Result B Status
viewed view result = result_map_both view (λ error. error) result

module _ (context : Option Context) (store : Contents) (url : List ℕ) (now : ℤ) where
  -- the cookies of the request or its error, or memory ran out
  abbrev pub Reads : {T : Type 0} → (T → List Row) → Result T Status → Type 0
  Reads items result =
      IsRequestRows context store (request url now) (viewed items result) ⊎ ((result ≡ Err NoMemory) × IsOk (text_and_time url now))

  -- a request that has cookies is valid
  valid_request : (inputs : Result (Parts × Moment) Status) → inputs ≡ request url now → (all : List Row) → IsRequestRows context store inputs (Ok all)
      → IsOk (text_and_time url now)
  valid_request (Ok i) is all given = first_is_ok (text_and_time url now) _ i (sym is)
  valid_request (Err e) is all given = absurd (cc)

  module _ (rows : List CookieRow) (strings : List ℕ) (outcome : BufferOutcome) where
    abbrev Writes : Type 0
    Writes = WritesSomeRows (IsRequestRows context store (request url now)) (IsOk (text_and_time url now)) rows strings outcome

    -- nothing is written on an error
    pub rows_failed : {T : Type 0} (items : T → List Row) (error : Status) (result : Result T Status) → result ≡ Err error → Reads items result
        → outcome ≡ nothing_written error rows strings → Writes
    rows_failed items error result is (inl given) reported =
        inl (Err error, subst (IsRequestRows context store (request url now)) (ap (viewed items) is) given, reported)
    rows_failed items error result is (inr (out, valid)) reported =
        let same : error ≡ NoMemory = cc in
        inr (valid, reported ∙ ap (λ status. nothing_written status rows strings) same)

    -- the cookies are written, or are too long
    pub rows_written : {T : Type 0} (items : T → List Row) (cookies : T) (shown : List Row) (result : Result T Status) → result ≡ Ok cookies
        → Reads items result → shown ≡ items cookies
        → (outcome ≡ rows_outcome shown rows strings) ⊎ (IsTooLong shown × (outcome ≡ nothing_written NoMemory rows strings)) → Writes
    rows_written items cookies shown result is (inl given) same (inl reported) =
        inl (
          Ok (items cookies),
          subst (IsRequestRows context store (request url now)) (ap (viewed items) is) given,
          reported ∙ ap (λ all. rows_outcome all rows strings) same,
        )
    rows_written items cookies shown result is (inl given) same (inr (long, reported)) =
        inr (valid_request (request url now) refl (items cookies) (subst (IsRequestRows context store (request url now)) (ap (viewed items) is) given), reported)
    rows_written items cookies shown result is (inr (out, valid)) same written = absurd (cc)

    of_store : Writes → WritesSomeRows (IsRequestRowsIn context (Some store) url now) (IsSome (Some store) × IsOk (text_and_time url now)) rows strings outcome
    of_store (inl written) = inl written
    of_store (inr (valid, reported)) = inr ((refl, valid), reported)

    -- what was written of the store that is held, in the context that is asked for
    pub in_a_store : (asked : Option Context) → context ≡ asked → (held : Option Contents) → Some store ≡ held → Writes
        → WritesSomeRows (IsRequestRowsIn asked held url now) (IsSome held × IsOk (text_and_time url now)) rows strings outcome
    in_a_store asked is_asked held is written =
        subst (λ asked. WritesSomeRows (IsRequestRowsIn asked held url now) (IsSome held × IsOk (text_and_time url now)) rows strings outcome) is_asked
        (subst (λ held. WritesSomeRows (IsRequestRowsIn context held url now) (IsSome held × IsOk (text_and_time url now)) rows strings outcome) is (of_store written))
