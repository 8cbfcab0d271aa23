-- A JSON value is read as a list exactly if it has the shape, apart from the validity of expiries.
use Rattle.std.proofs.Common.{◌≡◌, ℕ, List, [], ◌∷◌, false, Option, Some, None, Ok, Err, option_map, option_and_then, refl, ap, subst, ◌∙◌}
use Rattle.std.specs.List.{AllZip}
use Rattle.std.specs.Option.{ok_or}
use Rattle.std.proofs.lemmas.Option.{option_and_then_some, same_Some}
use Rattle.serde_json.specs.Data.{Data, array, Items, no_items, item}
use Rattle.serde_json.specs.Find.{as_array}
use Rattle.serde_json.specs.View.{items_of}
use Rattle.serde_json.specs.Written.{has_float, items_have_float}
use Rattle.cookie_words.specs.Moments.{Moment}
use Rattle.cookie_forms.specs.Saved.{Parts}
use Rattle.cookie_forms.specs.Shape.{HasShape, HasListShape}
use Rattle.cookie_forms.specs.FromJson.{parts_in, all_parts_in, all_with_parsed_expiry, list_at}
use Rattle.cookie_forms.specs.declared.error.SavedError.TheVariants as ErrorCase
use Rattle.cookie_forms.proofs.Shapes.{items_in, parts_read, parts_shaped, read_of, rejected_by}
use Rattle.cookie_forms.proofs.TreesPlain.{first_false, second_false}

-- the items as a list
abbrev trees_in : Items → List Data
trees_in no_items = []
trees_in (item d ds) = d ∷ trees_in ds

same_items : (ds : Items) → ds ≡ items_of (trees_in ds)
same_items no_items = refl
same_items (item d ds) = ap (λ es. item d es) (same_items ds)

items_plain : (ds : List Data) (ps : List (Parts (List ℕ))) → AllZip HasShape ds ps → items_have_float (items_of ds) ≡ false
items_plain [] [] h = refl
items_plain [] (p ∷ ps) h = absurd h
items_plain (d ∷ ds) [] h = absurd h
items_plain (d ∷ ds) (p ∷ ps) h = rw (h.0.4, items_plain ds ps h.1) refl

items_read : (ds : List Data) (ps : List (Parts (List ℕ))) → AllZip HasShape ds ps → all_parts_in (items_of ds) ≡ Some ps
items_read [] [] h = refl
items_read [] (p ∷ ps) h = absurd h
items_read (d ∷ ds) [] h = absurd h
items_read (d ∷ ds) (p ∷ ps) h = rw (parts_read d p h.0, items_read ds ps h.1) refl

mapped : (o : Option (List (Parts (List ℕ)))) (p : Parts (List ℕ)) (ps : List (Parts (List ℕ))) → option_map (λ qs. p ∷ qs) o ≡ Some ps
    → option_and_then (λ qs. Some (p ∷ qs)) o ≡ Some ps
mapped None p ps e = e
mapped (Some qs) p ps e = e

items_shaped : (ds : Items) (ps : List (Parts (List ℕ))) → items_have_float ds ≡ false → all_parts_in ds ≡ Some ps → AllZip HasShape (trees_in ds) ps
items_shaped no_items ps plain e = subst (λ qs. AllZip HasShape [] qs) (same_Some [] ps e) tt
items_shaped (item d ds) ps plain e =
    option_and_then_some _ (parts_in d) ps e (λ p here more.
    option_and_then_some (λ qs. Some (p ∷ qs)) (all_parts_in ds) ps (mapped (all_parts_in ds) p ps more) (λ qs behind whole.
    subst (λ rs. AllZip HasShape (d ∷ trees_in ds) rs) (same_Some (p ∷ qs) ps whole)
    (parts_shaped d p (first_false (has_float d) _ plain) here, items_shaped ds qs (second_false (has_float d) _ plain) behind)))

list_shaped : (d : Data) (ps : List (Parts (List ℕ))) → has_float d ≡ false → option_and_then all_parts_in (as_array d) ≡ Some ps → HasListShape d ps
list_shaped d ps plain e =
    option_and_then_some all_parts_in (as_array d) ps e (λ ds here read.
    let is_array = items_in d ds here in
    (trees_in ds, is_array ∙ ap array (same_items ds), items_shaped ds ps (subst (λ t. has_float t ≡ false) is_array plain) read))

pub list_shape_read : (d : Data) (ps : List (Parts (List ℕ))) → HasListShape d ps → list_at d ≡ ok_or (all_with_parsed_expiry ps) ErrorCase.Moment
list_shape_read d ps h = rw (h.1, items_plain h.0 ps h.2, items_read h.0 ps h.2) refl

pub list_read_shaped : (d : Data) (qs : List (Parts Moment)) → list_at d ≡ Ok qs
    → (ps : List (Parts (List ℕ))) × HasListShape d ps × (all_with_parsed_expiry ps ≡ Some qs)
list_read_shaped d qs e =
    let r = read_of (has_float d) all_with_parsed_expiry (option_and_then all_parts_in (as_array d)) qs e in
    (r.0, list_shaped d r.0 r.1 r.2, r.3)

pub list_shapeless_rejected : (d : Data) → ((ps : List (Parts (List ℕ))) → ¬ HasListShape d ps) → list_at d ≡ Err ErrorCase.Shape
list_shapeless_rejected d none =
    rejected_by (has_float d) all_with_parsed_expiry (option_and_then all_parts_in (as_array d)) (λ ps plain e. none ps (list_shaped d ps plain e))
