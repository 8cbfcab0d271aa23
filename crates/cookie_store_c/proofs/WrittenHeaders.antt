-- The header that is written is that of the request.
use Rattle.std.proofs.Common.{◌≡◌, ℕ, ℤ, List, Option, Some, Result, Ok, Err, IfErr, IfOk, IsOk, ap, inl, inr, refl, subst, sym, ◌∙◌}
use Rattle.std.specs.Result.{result_map_both}
use Rattle.url.specs.Parts.{Parts}
use Rattle.cookie_words.specs.Moments.{Moment}
use Rattle.cookie_parts.specs.Cookie.{and_then}
use Rattle.cookie_laws.specs.Contents.{Contents}
use Rattle.cookie_strict.specs.declared.context.Context.{Context}
use Rattle.cookie_store_c.specs.Inputs.{GivesOrRunsOut, page_and_request, request, text_and_time, text_in, url_in}
use Rattle.cookie_store_c.specs.Buffers.{TextOutcome, WritesSomeText, text_outcome}
use Rattle.cookie_store_c.specs.Headers.{from_page, IsHeader, IsHeaderFor, IsHeaderOfPage, IsHeaderText, IsPageHeader}
use Rattle.cookie_store_c.specs.declared.status.Status.{Status}
use Rattle.cookie_store_c.specs.declared.status.Status.TheVariants.{NoMemory}

-- if both steps succeed, so does the first one
pub first_is_ok : {A B : Type 0} (first : Result A Status) (next : A → Result B Status) (b : B) → and_then first next ≡ Ok b → IsOk first
first_is_ok (Ok a) next b is = refl
first_is_ok (Err status) next b is = absurd (cc)

-- if three steps succeed, of which the third depends on the first, so do the first two
pub both_are_ok : {A B C D : Type 0} (first : Result A Status) (second : Result B Status) (then : B → Result C Status) (next : A → C → Result D Status) (d : D)
    → and_then first (λ a. and_then (and_then second then) (next a)) ≡ Ok d → IsOk first × IsOk second
both_are_ok (Ok a) (Ok b) then next d is = (refl, refl)
both_are_ok (Ok a) (Err status) then next d is = absurd (cc)
both_are_ok (Err status) second then next d is = absurd (cc)

-- so the strings of a page and of a URL are valid, and the time is in range
pub page_is_valid : (page url : List ℕ) (now : ℤ) (inputs : Parts × Parts × Moment) → Ok inputs ≡ page_and_request page url now
    → IsOk (text_in page) × IsOk (text_and_time url now)
page_is_valid page url now inputs is =
    both_are_ok (text_in page) (text_and_time url now) (λ valid. and_then (url_in valid.0) (λ parts. Ok (parts, valid.1)))
    (λ text request. and_then (url_in text) (λ parts. Ok (parts, request.0, request.1))) inputs (sym is)

-- the first of two facts about an error
pub errors_alone : {A T : Type 0} (P : Status → Type 0) (Q : A → Type 0) (inputs : Result A Status) (text : Result T Status)
    → IfOk inputs (λ a. IfErr text (λ error. P error × Q a)) → IfOk inputs (λ a. IfErr text P)
errors_alone P Q (Ok a) (Ok t) known = tt
errors_alone P Q (Ok a) (Err error) known = known.0
errors_alone P Q (Err status) text known = tt

module _ (context : Option Context) (store : Contents) (url : List ℕ) (now : ℤ) (old : List ℕ) (status : Status) (new : List ℕ) (needed : ℕ) where
  -- the outcome
  abbrev BufferOutcome : TextOutcome
  BufferOutcome = record { status = status; buffer = new; needed = needed }

  abbrev WritesText : Type 0
  WritesText = WritesSomeText (IsHeader context store url now) (IsOk (text_and_time url now)) old status new needed

  -- it is that of this result
  answered : (expected : Result (List ℕ) Status) (inputs : Result (Parts × Moment) Status) → inputs ≡ request url now → IsHeaderFor context store inputs expected → BufferOutcome ≡ text_outcome expected old → WritesText
  answered expected inputs is header reported = inl (expected, subst (λ r. IsHeaderFor context store r expected) is header, reported)

  -- memory ran out
  ran_out : (error : Status) → error ≡ NoMemory → IsOk (text_and_time url now) → BufferOutcome ≡ text_outcome (Err error) old → WritesText
  ran_out error is ok reported = inr (ap (λ h. h.status) reported ∙ is, ok, ap (λ h. h.buffer) reported, ap (λ h. h.needed) reported)

  -- the header of the request is written, or its error returned
  pub header_written : {A T : Type 0} (view : A → Parts × Moment) (items : T → List ℕ) (inputs : Result A Status) (text : Result T Status)
      → GivesOrRunsOut (result_map_both view (λ error. error) inputs) (request url now)
      → (inputs ≡ Err NoMemory → IsOk (text_and_time url now))
      → IfOk text (λ t. IfOk inputs (λ a. IsHeaderText context (view a).0 (view a).1 store (items t)))
      → ((error : Status) → inputs ≡ Err error → text ≡ Err error)
      → IfOk inputs (λ a. IfErr text (λ error. error ≡ NoMemory))
      → BufferOutcome ≡ text_outcome (result_map_both items (λ error. error) text) old → WritesText
  header_written view items (Ok a) (Ok t) (inl is) memory header errors room reported =
      answered (Ok (items t)) (Ok (view a)) is (items t, header, refl) reported
  header_written view items (Ok a) (Ok t) (inr out) memory header errors room reported = absurd (cc)
  header_written view items (Ok a) (Err error) (inl is) memory header errors room reported =
      ran_out error room (first_is_ok (text_and_time url now) _ (view a) (sym is)) reported
  header_written view items (Ok a) (Err error) (inr out) memory header errors room reported = absurd (cc)
  header_written view items (Err error) text (inl is) memory header errors room reported =
      answered (Err error) (Err error) is refl (reported ∙ ap (λ t. text_outcome (result_map_both items (λ e. e) t) old) (errors error refl))
  header_written view items (Err error) text (inr out) memory header errors room reported =
      let same : error ≡ NoMemory = cc in
      ran_out error same (memory (ap Err same)) (reported ∙ ap (λ t. text_outcome (result_map_both items (λ e. e) t) old) (errors error refl))

-- the header of a request that a page made is written, or memory ran out
pub page_header_written : {T : Type 0} (Q : Type 0) (context used : Context) (store : Contents) (page url : List ℕ) (now : ℤ) (MayAllocate : Type 0)
    (old : List ℕ) (status : Status) (new : List ℕ) (needed : ℕ) (items : T → List ℕ) (from site : Parts) (moment : Moment) (text : Result T Status)
    → used ≡ from_page context store site from → Ok (from, site, moment) ≡ page_and_request page url now
    → IfOk text (λ t. IsHeaderText (Some used) site moment store (items t))
    → IfErr text (λ error. (error ≡ NoMemory) × Q) → MayAllocate
    → record { status = status; buffer = new; needed = needed } ≡ text_outcome (result_map_both items (λ error. error) text) old
    → WritesSomeText (IsPageHeader (Ok context) (Some store) page url now) MayAllocate old status new needed
page_header_written Q context used store page url now MayAllocate old status new needed items from site moment (Ok t) same is header room may reported =
    let own : IsHeaderText (Some (from_page context store site from)) site moment store (items t) =
    subst (λ c. IsHeaderText (Some c) site moment store (items t)) same header in
    inl (Ok (items t), subst (λ inputs. IsHeaderOfPage context store inputs (Ok (items t))) is (items t, own, refl), reported)
page_header_written Q context used store page url now MayAllocate old status new needed items from site moment (Err error) same is header room may reported =
    inr (ap (λ h. h.status) reported ∙ room.0, may, ap (λ h. h.buffer) reported, ap (λ h. h.needed) reported)

-- nor is one written after an error of its arguments
pub page_error_written : (context : Context) (store : Contents) (page url : List ℕ) (now : ℤ) (MayAllocate : Type 0)
    (old : List ℕ) (status : Status) (new : List ℕ) (needed : ℕ) (error : Status)
    → GivesOrRunsOut (Err error) (page_and_request page url now) → (error ≡ NoMemory → MayAllocate)
    → record { status = status; buffer = new; needed = needed } ≡ text_outcome (Err error) old
    → WritesSomeText (IsPageHeader (Ok context) (Some store) page url now) MayAllocate old status new needed
page_error_written context store page url now MayAllocate old status new needed error (inl is) may reported =
    inl (Err error, subst (λ inputs. IsHeaderOfPage context store inputs (Err error)) is refl, reported)
page_error_written context store page url now MayAllocate old status new needed error (inr out) may reported =
    let same : error ≡ NoMemory = cc in
    inr (ap (λ h. h.status) reported ∙ same, may same, ap (λ h. h.buffer) reported, ap (λ h. h.needed) reported)
