-- The header values of a response are parsed one after the other.
use Rattle.std.proofs.Common.{◌≡◌, inl, inr, ℕ, ◌+◌, ◌<◌, ◌≤◌, ℤ, Bool, true, false, eqb, List, [], ◌∷◌, ◌++◌, append_assoc, append-nil, drop, get_or, length, set, sum, take, Some, Result, Ok, Err, IsOk, if◌then◌else◌, ⊎_elim, ap, arith, eq-eqb, eqb-true, ne_eqb, refl, subst, sym, ◌∙◌}
use Rattle.std.specs.Prelude.{⊤}
use Rattle.std.proofs.lemmas.Bool.{and_parts, cases_eq}
use Rattle.std.proofs.lemmas.List.{drop_all, drop_more, take_all, take_more_set}
use Rattle.std.proofs.lemmas.List.Sums.{sum_by_more, sum_by-take-le}
use Rattle.url.specs.Parts.{Parts}
use Rattle.cookie_words.specs.Moments.{Moment}
use Rattle.cookie_parts.specs.Cookie.{and_then}
use Rattle.cookie_laws.specs.Contents.{Contents}
use Rattle.cookie_laws.specs.Runs.{Call, Set}
use Rattle.cookie_store_c.specs.Calls.{error_outcome, insertion_outcome, HasOutcome, ParsesValue}
use Rattle.cookie_store_c.specs.Inputs.{request, set_call, text_and_time, text_in, GivesOrRunsOut}
use Rattle.cookie_store_c.specs.Responses.{are_lengths, values_in, values_of, whole_error, ParsesAll, ParsesEach, ParsesResponse}
use Rattle.cookie_store_c.specs.Statuses.{IsCodeOf}
use Rattle.cookie_store_c.specs.declared.status.Status.{Status}
use Rattle.cookie_store_c.specs.declared.status.Status.TheVariants.{BadOption, Done, NoMemory}
use Rattle.cookie_store_c.proofs.StrictOutcomes.{may_run_out}
use Rattle.cookie_store_c.proofs.WrittenHeaders.{first_is_ok}

-- an error leaves the store unchanged, strict or not
unchanged : (is_strict : Bool) (store : Contents) (status : Status) → error_outcome (Some store) status ≡ insertion_outcome is_strict store (Err status)
unchanged false store status = refl
unchanged true store status = refl

module _ (is_strict : Bool) (url : List ℕ) (now : ℤ) where
  -- a header value that is UTF-8, received from a valid URL
  pub parsed_value : (value text : List ℕ) (inputs : Parts × Moment) (old : Contents) (status : Status) (new : Contents)
      → request url now ≡ Ok inputs → text_in value ≡ Ok text
      → HasOutcome (insertion_outcome is_strict old (Ok (Set text inputs.0 inputs.1))) ⊤ (Some old) status (Some new)
      → ParsesValue is_strict url now value old status new
  parsed_value value text inputs old status new valid utf8 inserted =
      let call : set_call url value now ≡ Ok (Set text inputs.0 inputs.1) =
      ap (λ (t : Result (List ℕ) Status). and_then t (λ x. and_then (request url now) (λ i. Ok (Set x i.0 i.1)))) utf8 ∙ ap (λ (r : Result (Parts × Moment) Status). and_then r (λ i. Ok (Set text i.0 i.1))) valid in
      let may : IsOk (text_in value) × IsOk (text_and_time url now) =
      (subst IsOk (sym utf8) refl, first_is_ok (text_and_time url now) _ inputs valid) in
      subst (λ (c : Result Call Status). HasOutcome (insertion_outcome is_strict old c) (IsOk (text_in value) × IsOk (text_and_time url now)) (Some old) status (Some new)) (sym call)
      (may_run_out (insertion_outcome is_strict old (Ok (Set text inputs.0 inputs.1))) (IsOk (text_in value) × IsOk (text_and_time url now)) (Some old) status
      (Some new) may inserted)

  -- one that is not UTF-8
  pub unparsed_value : (value : List ℕ) (old : Contents) (status : Status) → text_in value ≡ Err status → ParsesValue is_strict url now value old status old
  unparsed_value value old status invalid =
      let call : set_call url value now ≡ Err status = ap (λ (t : Result (List ℕ) Status). and_then t (λ x. and_then (request url now) (λ i. Ok (Set x i.0 i.1)))) invalid in
      inl (unchanged is_strict old status ∙ ap (insertion_outcome is_strict old) (sym call))

  -- once the others are parsed, in the store that was reached, so are all
  abbrev pub Continues : List (List ℕ) → Contents → List (List ℕ) → Contents → List ℕ → Type 0
  Continues all old others store codes =
      (more : List ℕ) (new : Contents) → ParsesEach is_strict url now others store more new → ParsesEach is_strict url now all old (codes ++ more) new

  -- the next value is parsed
  pub next_value : (all : List (List ℕ)) (old : Contents) (lens : List ℕ) (i : ℕ) (rest value after codes : List ℕ) (code : ℕ) (store new : Contents)
      → i < length lens → i < length codes → value ≡ take (get_or lens i 0) rest → after ≡ drop (get_or lens i 0) rest
      → IsCodeOf code (λ status. ParsesValue is_strict url now value store status new)
      → Continues all old (values_of (drop i lens) rest) store (take i codes)
      → Continues all old (values_of (drop (i + 1) lens) after) new (take (i + 1) (set codes i code))
  next_value all old lens i rest value after codes code store new within room is_value is_after parsed continues more last others =
      let next : values_of (drop i lens) rest ≡ value ∷ values_of (drop (i + 1) lens) after =
      ap (λ (ls : List ℕ). values_of ls rest) (drop_more lens i 0 within) ∙ (λ j. sym is_value j ∷ values_of (drop (i + 1) lens) (sym is_after j)) in
      let each : ParsesEach is_strict url now (values_of (drop i lens) rest) store (code ∷ more) last =
      subst (λ (vs : List (List ℕ)). ParsesEach is_strict url now vs store (code ∷ more) last) (sym next) (new, parsed, others) in
      let written : take i codes ++ code ∷ more ≡ take (i + 1) (set codes i code) ++ more =
      sym (append_assoc (take i codes) (code ∷ []) more) ∙ ap (λ (cs : List ℕ). cs ++ more) (sym (take_more_set codes i code room)) in
      subst (λ (cs : List ℕ). ParsesEach is_strict url now all old cs last) written (continues (code ∷ more) last each)

  -- all values are parsed
  pub parsed_each : (all : List (List ℕ)) (old : Contents) (lens : List ℕ) (i : ℕ) (rest codes : List ℕ) (store : Contents)
      → length lens ≤ i → length codes ≤ i → Continues all old (values_of (drop i lens) rest) store (take i codes)
      → ParsesEach is_strict url now all old codes store
  parsed_each all old lens i rest codes store done full continues =
      let none : values_of (drop i lens) rest ≡ [] = ap (λ (ls : List ℕ). values_of ls rest) (drop_all i lens done) in
      let each : ParsesEach is_strict url now (values_of (drop i lens) rest) store [] store =
      subst (λ (vs : List (List ℕ)). ParsesEach is_strict url now vs store [] store) (sym none) refl in
      subst (λ (cs : List ℕ). ParsesEach is_strict url now all old cs store) (append-nil (take i codes) ∙ take_all i codes full) (continues [] store each)

-- the lengths so far and what is left of the total make the total
pub too_long : (lens : List ℕ) (i rest total : ℕ) → i < length lens → sum (take i lens) + rest ≡ total → (get_or lens i 0 ≤ rest → ⊥)
    → false ≡ eqb (sum lens) total
too_long lens i rest total within so_far long =
    let more = sum_by_more (λ x. x) lens i 0 within in
    let least = sum_by-take-le (λ x. x) lens (i + 1) in
    sym (ne_eqb (sum lens) total (λ same. omega (arith, more, least, so_far, long, same)))

pub adds_up : (lens : List ℕ) (i rest total : ℕ) → length lens ≤ i → sum (take i lens) + rest ≡ total → eqb rest 0 ≡ eqb (sum lens) total
adds_up lens i rest total done so_far =
    let all : sum lens + rest ≡ total = subst (λ (ls : List ℕ). sum ls + rest ≡ total) (take_all i lens done) so_far in
    ⊎_elim (λ none. eq-eqb rest 0 none ∙ sym (eq-eqb (sum lens) total (omega (arith, all, none))))
    (λ some. ne_eqb rest 0 some ∙ sym (ne_eqb (sum lens) total (λ same. some (omega (arith, all, same)))))
    (cases_eq rest 0)

-- what is known of lengths that add up
pub lengths_are : (lens : List ℕ) (total count : ℕ) → are_lengths lens total count ≡ true → (sum lens ≡ total) × (length lens ≡ count)
lengths_are lens total count valid =
    let parts = and_parts (eqb (sum lens) total) (eqb (length lens) count) valid in
    (eqb-true (sum lens) total parts.0, eqb-true (length lens) count parts.1)

module _ (is_strict : Bool) (url values lens : List ℕ) (now : ℤ) (count : ℕ) (store : Contents) (codes : List ℕ) where
  -- the lengths do not add up
  pub not_lengths : are_lengths lens (length values) count ≡ false
      → ParsesResponse is_strict url now (Some store) (values_in values lens count) codes (whole_error BadOption (Some store) codes)
  not_lengths misfit =
      let invalid : values_in values lens count ≡ Err BadOption = ap (λ (b : Bool). if b then Ok (values_of lens values) else Err BadOption) misfit in
      subst (λ (given : Result (List (List ℕ)) Status). ParsesResponse is_strict url now (Some store) given codes (whole_error BadOption (Some store) codes)) (sym invalid) (inl refl)

  -- they do
  are_values : are_lengths lens (length values) count ≡ true → values_in values lens count ≡ Ok (values_of lens values)
  are_values fit = ap (λ (b : Bool). if b then Ok (values_of lens values) else Err BadOption) fit

  -- the URL or the time is not valid, or memory runs out for the URL
  pub not_requested : (status : Status) → are_lengths lens (length values) count ≡ true → GivesOrRunsOut (Err status) (request url now)
      → (status ≡ NoMemory → IsOk (text_and_time url now))
      → ParsesResponse is_strict url now (Some store) (values_in values lens count) codes (whole_error status (Some store) codes)
  not_requested status fit (inl is) memory =
      subst (λ (given : Result (List (List ℕ)) Status). ParsesResponse is_strict url now (Some store) given codes (whole_error status (Some store) codes)) (sym (are_values fit))
      (inl (subst (λ (r : Result (Parts × Moment) Status). ParsesAll is_strict url now (Some store) (and_then r (λ inputs. Ok (values_of lens values))) codes (whole_error status (Some store) codes)) is refl))
  not_requested status fit (inr out) memory =
      let same : status ≡ NoMemory = cc in
      subst (λ (given : Result (List (List ℕ)) Status). ParsesResponse is_strict url now (Some store) given codes (whole_error status (Some store) codes)) (sym (are_values fit))
      (inr (refl, (same, (refl, refl, memory same), refl)))

  -- the values are parsed
  pub all_parsed : (inputs : Parts × Moment) (new : Contents) (written : List ℕ) → are_lengths lens (length values) count ≡ true
      → GivesOrRunsOut (Ok inputs) (request url now)
      → (request url now ≡ Ok inputs → ParsesEach is_strict url now (values_of lens values) store written new)
      → ParsesResponse is_strict url now (Some store) (values_in values lens count) codes (record { status = Done; store = Some new; codes = written })
  all_parsed inputs new written fit (inl is) parsed =
      subst (λ (given : Result (List (List ℕ)) Status). ParsesResponse is_strict url now (Some store) given codes (record { status = Done; store = Some new; codes = written })) (sym (are_values fit))
      (inl (subst (λ (r : Result (Parts × Moment) Status). ParsesAll is_strict url now (Some store) (and_then r (λ inputs. Ok (values_of lens values))) codes
      (record { status = Done; store = Some new; codes = written })) is (new, refl, refl, parsed (sym is))))
  all_parsed inputs new written fit (inr out) parsed = absurd (cc)
