-- The rows that the format of `cookies.txt` can represent.
use Rattle.std.proofs.Common.{◌≡◌, ℕ, ◌+◌, Bool, true, false, List, [], ◌∷◌, ◌++◌, filter, cond, Result, Ok, Err, IfErr, inr, refl, ap, ◌∙◌}
use Rattle.std.specs.List.{list_all}
use Rattle.std.proofs.lemmas.Bool.{and_parts}
use Rattle.cookie_device.specs.Device.{AppendsPrefix, SinkState}
use Rattle.cookie_parts.specs.Cookie.{Row}
use Rattle.cookie_netscape.specs.Written.{is_representable, written_text}
use Rattle.cookie_netscape.specs.declared.error.NetscapeError.{NetscapeError}
use Rattle.cookie_netscape.specs.declared.error.NetscapeError.TheVariants.{Io}
use Rattle.cookie_serde.specs.NetscapeLists.{FailsToSaveNetscape}

-- a filter keeps all items, if all pass
filter_passing : {A : Type 0} (p : A → Bool) (xs : List A) → list_all p xs ≡ true → filter p xs ≡ xs
filter_passing p [] all = refl
filter_passing p (x ∷ xs) all =
    let parts : (p x ≡ true) × (list_all p xs ≡ true) = and_parts _ _ all in
    rw parts.0 (ap (λ ys. x ∷ ys) (filter_passing p xs parts.1))

-- an item in front of items that pass is kept if it passes too
first_passes : {A : Type 0} (p : A → Bool) (passes : Bool) (x : A) (xs : List A) → p x ≡ passes → list_all p xs ≡ true
    → list_all p (cond passes (x ∷ xs) xs) ≡ true
first_passes p true x xs is all = rw is all
first_passes p false x xs is all = all

-- the items that a filter keeps pass
pub kept_pass : {A : Type 0} (p : A → Bool) (xs : List A) → list_all p (filter p xs) ≡ true
kept_pass p [] = refl
kept_pass p (x ∷ xs) = first_passes p (p x) x (filter p xs) refl (kept_pass p xs)

-- the file of the rows that the format can represent, if it can represent all
pub all_written : (rows : List Row) (text : List ℕ) → list_all is_representable rows ≡ true
    → text ≡ written_text (filter is_representable rows) → text ≡ written_text rows
all_written rows text all is = is ∙ ap written_text (filter_passing is_representable rows all)

-- a beginning of the file was written
pub file_begun : {T : Type 0} (rows : List Row) (text : List ℕ) → list_all is_representable rows ≡ true → text ≡ written_text rows
    → (result : Result T NetscapeError) (old new : SinkState)
    → IfErr result (λ error. AppendsPrefix old.contents new.contents (text ++ 10 ∷ []) × (error ≡ Io) × (new.failed ≡ old.failed + 1))
    → IfErr result (λ error. FailsToSaveNetscape error rows old new)
file_begun rows text all is (Ok done) old new begun = tt
file_begun rows text all is (Err error) old new (begun, io, count) = inr (all, rw is at begun, io, count)
