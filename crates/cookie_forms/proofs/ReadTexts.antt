-- Saved cookies and lists read from whole texts.
use Rattle.std.proofs.Common.{◌≡◌, ◌≢◌, ◌≤◌, ◌⊎◌, inl, inr, ℕ, List, [], ◌∷◌, Option, Some, None, Result, Ok, Err, option_map, option_and_then, map, Vec, Global, refl, sym, ap, ◌∙◌, arith}
use Rattle.std.specs.Option.{ok_or}
use Rattle.std.specs.Prelude.{IfErr, IfOk, IfSome, IsOk, OnErr}
use Rattle.json.specs.Token.{Token}
use Rattle.json.specs.Json.{if_last, value}
use Rattle.json.specs.Lex.{lex, punctuate, tokens}
use Rattle.serde_json.specs.Data.{Data}
use Rattle.serde_json.specs.Read.{of_json, read}
use Rattle.serde_json.specs.View.{view}
use Rattle.serde_json.specs.declared.value.Value.{Value}
use Rattle.cookie_words.specs.Moments.{Moment}
use Rattle.cookie_forms.specs.FromJson.{list_at, list_in, parsed_expiry, saved_at, saved_in}
use Rattle.cookie_forms.specs.Saved.{Parts, saved_view}
use Rattle.cookie_forms.specs.Shape.{HasShape}
use Rattle.cookie_forms.specs.ToJson.{with_expiry}
use Rattle.cookie_forms.specs.Tokens.{BeginWithSaved, BeginWithSavedItem, ReadsTo}
use Rattle.cookie_forms.specs.declared.error.SavedError.{SavedError}
use Rattle.cookie_forms.specs.declared.error.SavedError.TheVariants as ErrorCase
use Rattle.cookie_forms.specs.declared.saved.Saved.{Saved}
use Rattle.cookie_forms.proofs.ReadTokens.{not_empty}
use Rattle.cookie_forms.proofs.Shapes.{shape_read}

pub on_err : {A B : Type 0} (r : Result A B) (P : Type 0) → P → OnErr r P
on_err (Ok a) P h = tt
on_err (Err e) P h = h

-- an object of the shape, with its expiry parsed
pub saved_read : (d : Data) (p : Parts (List ℕ)) (expires : Option Moment) (q : Parts Moment) → HasShape d p → Some expires ≡ parsed_expiry p.expires → q ≡ with_expiry p expires
    → saved_at d ≡ Ok q
saved_read d p expires q shape is copied =
    shape_read d p shape ∙ ap (λ o. ok_or (option_map (λ e. with_expiry p e) o) ErrorCase.Moment) (sym is) ∙ ap Ok (sym copied)

pub begin_saved : (depth : ℕ) (old new : List Token) (tree : Data) (q : Parts Moment) → ReadsTo depth old tree new → saved_at tree ≡ Ok q
    → (d : Data) × (rest : List Token) × ReadsTo depth old d rest × IsOk (saved_at d)
begin_saved depth old new tree q here is = (tree, new, here, rw is refl)

-- the first item is this one, or was read before
pub first_saved : {now first : List Token} → (now ≡ first) ⊎ BeginWithSaved first → BeginWithSaved now → BeginWithSaved first
first_saved (inl same) begin = rw (← same) begin
first_saved (inr begin) later = begin

pub saved_not_empty : (tokens : List Token) → BeginWithSaved tokens → tokens ≢ []
saved_not_empty tokens begin = let here = begin 2 (omega arith) in not_empty 2 tokens here.1 here.0 here.2

pub list_not_empty : (tokens : List Token) → BeginWithSavedItem tokens → tokens ≢ []
list_not_empty tokens begin = let is = begin.1 in λ h. cc

-- no text has tokens but one that is not empty
pub some_text : (text : List ℕ) → tokens text ≢ [] → text ≢ []
unfolding lex punctuate
some_text [] h = λ e. h refl
some_text (b ∷ bs) h = λ e. cc

pub text_read : (text : List ℕ) (tree : Data) → ReadsTo 127 (tokens text) tree [] → read text ≡ Some tree
text_read text tree e = ap (λ o. option_and_then of_json (option_and_then (λ p. if_last p.0 p.1) o)) e.1 ∙ e.2

pub no_text : read [] ≡ None
unfolding lex punctuate value
no_text = refl

pub saved_of_tree : (text : List ℕ) (tree : Data) → read text ≡ Some tree → saved_in text ≡ saved_at tree
saved_of_tree text tree e = ap (λ o. elim o [ None ↦ Err ErrorCase.Json | Some t ↦ saved_at t ]) e

pub list_of_tree : (text : List ℕ) (tree : Data) → read text ≡ Some tree → list_in text ≡ list_at tree
list_of_tree text tree e = ap (λ o. elim o [ None ↦ Err ErrorCase.Json | Some t ↦ list_at t ]) e

pub whole_saved : (o : Option Saved) (text : List ℕ) (old new : List Token) → old ≡ tokens text → new ≡ []
    → IfSome o (λ saved. (depth : ℕ) → 2 ≤ depth → (tree : Data) × ReadsTo depth old tree new × (saved_at tree ≡ Ok (saved_view saved)))
    → IfSome o (λ saved. saved_in text ≡ Ok (saved_view saved))
whole_saved None text old new e last found = tt
whole_saved (Some saved) text old new e last found =
    let here = found 127 (omega arith) in
    saved_of_tree text here.0 (text_read text here.0 (rw (← e, ← last) here.1)) ∙ here.2

pub whole_list : (o : Option (Vec Saved Global)) (text : List ℕ) (old new : List Token) → old ≡ tokens text → new ≡ []
    → IfSome o (λ list. (depth : ℕ) → 3 ≤ depth → (tree : Data) × ReadsTo depth old tree new × (list_at tree ≡ Ok (map saved_view list.items)))
    → IfSome o (λ list. list_in text ≡ Ok (map saved_view list.items))
whole_list None text old new e last found = tt
whole_list (Some list) text old new e last found =
    let here = found 127 (omega arith) in
    list_of_tree text here.0 (text_read text here.0 (rw (← e, ← last) here.1)) ∙ here.2

some_read : (text : List ℕ) (tree : Data) → read text ≡ Some tree → text ≢ []
some_read text tree e = λ h. let never : None ≡ Some tree = sym no_text ∙ ap read (sym h) ∙ e in cc

rejected_alike : {A B : Type 0} (r : Result A SavedError) (text : List ℕ) (of_text of_tree : Result B SavedError) → of_text ≡ of_tree → text ≢ []
    → IfErr r (λ e. (e ≡ ErrorCase.Memory) ⊎ (of_tree ≡ Err e)) → IfErr r (λ e. (of_text ≡ Err e) ⊎ ((e ≡ ErrorCase.Memory) × (text ≢ [])))
rejected_alike (Ok a) text of_text of_tree same some rejected = tt
rejected_alike (Err e) text of_text of_tree same some (inl memory) = inr (memory, some)
rejected_alike (Err e) text of_text of_tree same some (inr is) = inl (same ∙ is)

failed_alike : {A B : Type 0} (r : Result A SavedError) (text : List ℕ) (of_text : Result B SavedError) (f : SavedError) → r ≡ Err f
    → (read text ≡ None → of_text ≡ Err ErrorCase.Json) → ((f ≡ ErrorCase.Json) × (read text ≡ None)) ⊎ ((f ≡ ErrorCase.Memory) × (text ≢ []))
    → IfErr r (λ e. (of_text ≡ Err e) ⊎ ((e ≡ ErrorCase.Memory) × (text ≢ [])))
failed_alike r text of_text f is not_json (inl here) = rw is (inl (not_json here.1 ∙ ap Err (sym here.0)))
failed_alike r text of_text f is not_json (inr here) = rw is (inr here)

-- ---- what is read from a parsed value

-- `parsed` is the value of `text`, or the error that there is none
abbrev pub Parsed : List ℕ → Result Value SavedError → Type 0
Parsed text parsed =
    IfOk parsed (λ tree. read text ≡ Some (view tree))
    × IfErr parsed (λ e. ((e ≡ ErrorCase.Json) × (read text ≡ None)) ⊎ ((e ≡ ErrorCase.Memory) × (text ≢ [])))

pub saved_of : (r : Result Saved SavedError) (parsed : Result Value SavedError) (text : List ℕ) → Parsed text parsed
    → ((e : SavedError) → parsed ≡ Err e → r ≡ Err e)
    → ((tree : Value) → parsed ≡ Ok tree → IfOk r (λ saved. saved_at (view tree) ≡ Ok (saved_view saved)))
    → IfOk r (λ saved. saved_in text ≡ Ok (saved_view saved))
saved_of r (Err e) text is unparsed saved = rw (unparsed e refl) tt
saved_of (Err e) (Ok tree) text is unparsed saved = tt
saved_of (Ok a) (Ok tree) text is unparsed saved = saved_of_tree text (view tree) is.0 ∙ saved tree refl

pub saved_rejected : (r : Result Saved SavedError) (parsed : Result Value SavedError) (text : List ℕ) → Parsed text parsed
    → ((e : SavedError) → parsed ≡ Err e → r ≡ Err e)
    → ((tree : Value) → parsed ≡ Ok tree → IfErr r (λ e. (e ≡ ErrorCase.Memory) ⊎ (saved_at (view tree) ≡ Err e)))
    → IfErr r (λ e. (saved_in text ≡ Err e) ⊎ ((e ≡ ErrorCase.Memory) × (text ≢ [])))
saved_rejected r (Ok tree) text is unparsed rejected =
    rejected_alike r text (saved_in text) (saved_at (view tree)) (saved_of_tree text (view tree) is.0) (some_read text (view tree) is.0) (rejected tree refl)
saved_rejected r (Err f) text is unparsed rejected =
    failed_alike r text (saved_in text) f (unparsed f refl) (λ e. ap (λ o. elim o [ None ↦ Err ErrorCase.Json | Some t ↦ saved_at t ]) e) is.1

pub list_of : (r : Result (Vec Saved Global) SavedError) (parsed : Result Value SavedError) (text : List ℕ) → Parsed text parsed
    → ((e : SavedError) → parsed ≡ Err e → r ≡ Err e)
    → ((tree : Value) → parsed ≡ Ok tree → IfOk r (λ list. list_at (view tree) ≡ Ok (map saved_view list.items)))
    → IfOk r (λ list. list_in text ≡ Ok (map saved_view list.items))
list_of r (Err e) text is unparsed saved = rw (unparsed e refl) tt
list_of (Err e) (Ok tree) text is unparsed saved = tt
list_of (Ok a) (Ok tree) text is unparsed saved = list_of_tree text (view tree) is.0 ∙ saved tree refl

pub list_rejected : (r : Result (Vec Saved Global) SavedError) (parsed : Result Value SavedError) (text : List ℕ) → Parsed text parsed
    → ((e : SavedError) → parsed ≡ Err e → r ≡ Err e)
    → ((tree : Value) → parsed ≡ Ok tree → IfErr r (λ e. (e ≡ ErrorCase.Memory) ⊎ (list_at (view tree) ≡ Err e)))
    → IfErr r (λ e. (list_in text ≡ Err e) ⊎ ((e ≡ ErrorCase.Memory) × (text ≢ [])))
list_rejected r (Ok tree) text is unparsed rejected =
    rejected_alike r text (list_in text) (list_at (view tree)) (list_of_tree text (view tree) is.0) (some_read text (view tree) is.0) (rejected tree refl)
list_rejected r (Err f) text is unparsed rejected =
    failed_alike r text (list_in text) f (unparsed f refl) (λ e. ap (λ o. elim o [ None ↦ Err ErrorCase.Json | Some t ↦ list_at t ]) e) is.1
