-- The items of a list of saved cookies, read one after the other.
use Rattle.std.proofs.Common.{◌≡◌, ◌≤◌, ◌-◌, ◌++◌, ℕ, List, [], ◌∷◌, length, Option, Some, None, Ok, option_map, option_and_then, append-nil, refl, sym, ap, ◌∙◌, arith}
use Rattle.std.specs.Option.{ok_or}
use Rattle.json.specs.Token.{Token}
use Rattle.json.specs.Json as json
use Rattle.json.specs.Json.{after_end_array, items, parse_map, value}
use Rattle.json.proofs.Grammar.{items_end, items_more, value-begin_array}
use Rattle.serde_json.specs.Data.{Data, Items, array, item, no_items}
use Rattle.serde_json.specs.Read.{of_items, of_json}
use Rattle.serde_json.specs.Written.{has_float, items_have_float}
use Rattle.cookie_words.specs.Moments.{Moment}
use Rattle.cookie_forms.specs.FromJson.{all_in, all_parts_in, all_with_parsed_expiry, list_at, parts_in, saved_at, then_read, with_parsed_expiry}
use Rattle.cookie_forms.specs.Saved.{Parts}
use Rattle.cookie_forms.specs.Tokens.{ReadsTo}
use Rattle.cookie_forms.specs.declared.error.SavedError.TheVariants as ErrorCase
use Rattle.cookie_forms.proofs.ReadLists.{behind, read_step}
use Rattle.cookie_forms.proofs.ReadTokens.{shorter}
use Rattle.cookie_forms.proofs.Shapes.{read_of}

-- the items `all` are the saved cookies `list` and then those of `more`
abbrev Follow : List (Parts Moment) → Items → Items → Type 0
Follow list more all = (items_have_float all ≡ items_have_float more) × (all_in all ≡ option_map (λ rest. list ++ rest) (all_in more))

-- Of the items that are the tokens `first`, those before `now` have been read as `list`, whatever items `now` goes on with.
abbrev pub ItemsRead : ℕ → List Token → List Token → List (Parts Moment) → Type 0
ItemsRead depth first now list =
    (n : ℕ) × (length now ≤ n)
    × ((more : json.Items) (rest : List Token) (ds : Items) → items (value depth) n now ≡ Some (more, rest) → of_items more ≡ Some ds
    → (all : json.Items) × (whole : Items) × (items (value depth) (length first) first ≡ Some (all, rest)) × (of_items all ≡ Some whole) × Follow list ds whole)

with_item : (j : json.Json) (d : Data) (more : json.Items) (ds : Items) → of_json j ≡ Some d → of_items more ≡ Some ds → of_items (json.item j more) ≡ Some (item d ds)
with_item j d more ds e f = rw (e, f) refl

-- an item without a float, read as a saved cookie
one_more : (d : Data) (ds whole : Items) (list : List (Parts Moment)) (saved : Parts Moment) → saved_at d ≡ Ok saved
    → Follow list (item d ds) whole → Follow (list ++ saved ∷ []) ds whole
one_more d ds whole list saved e follow =
    let r = read_of (has_float d) with_parsed_expiry (parts_in d) saved e in (
      follow.0 ∙ rw r.1 refl,
      follow.1 ∙ ap (option_map (λ rest. list ++ rest)) (read_step d ds r.0 saved (sym r.2) r.3) ∙ behind list saved (all_in ds),
    )

pub item_is_read : (depth : ℕ) (first now r : List Token) (tree : Data) (list : List (Parts Moment)) (saved : Parts Moment)
    → ItemsRead depth first now list → after_end_array now ≡ None → ReadsTo depth now tree r → saved_at tree ≡ Ok saved
    → ItemsRead depth first r (list ++ saved ∷ [])
item_is_read depth first now r tree list saved so_far going here is =
    let n = so_far.0 in
    let enough = so_far.1 in
    let less = shorter depth now r tree here in (
      n - 1,
      omega arith,
      λ more rest ds e f.
          let j = here.0 in
          let step = items_more (value depth) n now r j (omega arith) going here.1 ∙ ap (parse_map (json.item j)) e in
          let all = so_far.2 (json.item j more) rest (item tree ds) step (with_item j tree more ds here.2 f) in
          (all.0, all.1, all.2, all.3, one_more tree ds all.1 list saved is all.4),
    )

-- `then_read` of what was read
all_read : {A B : Type 0} (read : A → Option B) (o : Option A) (b : B) → option_and_then read o ≡ Some b → then_read read o ≡ Ok b
all_read read None b e = cc
all_read read (Some a) b e = ap (λ r. ok_or r ErrorCase.Moment) e

list_is : (whole : Items) (list : List (Parts Moment)) → Follow list no_items whole → list_at (array whole) ≡ Ok list
list_is whole list follow =
    rw (follow.0) (all_read all_with_parsed_expiry (all_parts_in whole) list (follow.1 ∙ ap Some (append-nil list)))

pub items_are_read : (depth : ℕ) (first now r : List Token) (list : List (Parts Moment)) → 1 ≤ depth
    → ItemsRead (depth - 1) first now list → after_end_array now ≡ Some r
    → (tree : Data) × ReadsTo depth (Token.begin_array ∷ first) tree r × (list_at tree ≡ Ok list)
items_are_read depth first now r list some so_far closed =
    let p = value (depth - 1) in
    let all = so_far.2 json.no_items r no_items (items_end p so_far.0 now r so_far.1 closed) refl in (
      array all.1,
      (json.array all.0, value-begin_array depth first (omega arith) ∙ ap (parse_map json.array) all.2, ap (option_map array) all.3),
      list_is all.1 list all.4,
    )
