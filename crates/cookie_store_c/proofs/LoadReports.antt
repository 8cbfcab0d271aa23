-- The outcome of loading a store into a handle.
use Rattle.std.proofs.Common.{◌≡◌, ◌⊎◌, inl, inr, ℕ, List, [], ◌∷◌, length, Option, Some, None, Result, Ok, Err, IsOk, ap, refl, subst, sym, ◌∙◌}
use Rattle.cookie_laws.specs.Contents.{Contents}
use Rattle.cookie_store_c.specs.Calls.{RunsOut}
use Rattle.cookie_store_c.specs.LoadedStores.{LoadOutcome, Loads, LoadsAndReports, LoadsInto, numbers_of, rejected, reported, with_numbers}
use Rattle.cookie_store_c.specs.Options.{Chosen}
use Rattle.cookie_store_c.specs.declared.status.Status.{Status}
use Rattle.cookie_store_c.specs.declared.status.Status.TheVariants.{Done, HasStore, NoMemory}

-- the outcome, or memory ran out
abbrev pub Outcome : Option Contents → Result (Chosen × List ℕ) Status → List ℕ → Status → Option Contents → List ℕ → ℕ → Type 0
Outcome old given buffer status new written malformed =
    LoadsAndReports old given buffer (record { status = status; store = new }) written malformed
    ⊎ ((written ≡ buffer) × (malformed ≡ 0) × RunsOut ((old ≡ None) × IsOk given) old status new)

-- no number is written
unwritten : (buffer : List ℕ) → buffer ≡ with_numbers [] buffer
unwritten [] = refl
unwritten (number ∷ buffer) = refl

-- there is a store
pub has_store : (store : Contents) (given : Result (Chosen × List ℕ) Status) (buffer : List ℕ) (new : Option Contents)
    → new ≡ Some store → Outcome (Some store) given buffer HasStore new buffer 0
has_store store given buffer new same =
    inl ([], (λ i. record { outcome = record { status = HasStore; store = same i }; numbers = [] }), unwritten buffer, refl)

no_store : (T : Type 0) (store : Contents) → Some store ≡ None → T
no_store T store is = absurd (cc)

-- what is created is of valid options and a valid string
is_valid : (given : Result (Chosen × List ℕ) Status) (store : Contents) (numbers : List ℕ) → Loads given (reported store numbers) → IsOk given
is_valid (Ok given) store numbers loads = refl
is_valid (Err status) store numbers loads =
    no_store _ store (ap (λ (loaded : LoadOutcome). loaded.outcome.store) loads)

module _ (old : Option Contents) (given : Result (Chosen × List ℕ) Status) (buffer : List ℕ) (empty : old ≡ None) where
  into : (loaded : LoadOutcome) → Loads given loaded → LoadsInto old given loaded
  into loaded loads = subst (λ (store : Option Contents). LoadsInto store given loaded) (sym empty) loads

  -- a store is created, if there is memory for it
  pub creates : (store : Contents) (numbers : List ℕ) → Loads given (reported store numbers)
      → (status : Status) (new : Option Contents) (written : List ℕ) (malformed : ℕ)
      → ((status ≡ Done) × (new ≡ Some store) × (written ≡ with_numbers numbers buffer) × (malformed ≡ length numbers))
      ⊎ ((status ≡ NoMemory) × (new ≡ None) × (written ≡ buffer) × (malformed ≡ 0))
      → Outcome old given buffer status new written malformed
  creates store numbers loads status new written malformed (inl (done, created, all_written, counted)) = inl (
    numbers,
    into (record { outcome = record { status = status; store = new }; numbers = numbers })
        (subst (λ (loaded : LoadOutcome). Loads given loaded)
        (λ i. record { outcome = record { status = sym done i; store = sym created i }; numbers = numbers }) loads),
    all_written,
    counted,
  )
  creates store numbers loads status new written malformed (inr (memory, none, same, zero)) =
      inr (same, zero, (memory, (empty, is_valid given store numbers loads), none ∙ sym empty))

  -- no store is created
  pub fails : (why : Status) (line : Option ℕ)
      → Loads given (rejected why (numbers_of line)) ⊎ ((why ≡ NoMemory) × (line ≡ None) × IsOk given)
      → (status : Status) (new : Option Contents) (written : List ℕ) (malformed : ℕ)
      → status ≡ why → new ≡ None → written ≡ with_numbers (numbers_of line) buffer → malformed ≡ length (numbers_of line)
      → Outcome old given buffer status new written malformed
  fails why line (inl loads) status new written malformed is none all_written counted = inl (
    numbers_of line,
    into (record { outcome = record { status = status; store = new }; numbers = numbers_of line })
        (subst (λ (loaded : LoadOutcome). Loads given loaded)
        (λ i. record { outcome = record { status = sym is i; store = sym none i }; numbers = numbers_of line }) loads),
    all_written,
    counted,
  )
  fails why line (inr (memory, no_line, valid)) status new written malformed is none all_written counted = inr (
    all_written ∙ ap (λ (line : Option ℕ). with_numbers (numbers_of line) buffer) no_line ∙ sym (unwritten buffer),
    counted ∙ ap (λ (line : Option ℕ). length (numbers_of line)) no_line,
    (is ∙ memory, (empty, valid), none ∙ sym empty),
  )
