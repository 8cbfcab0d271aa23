-- How many rows of a domain are Secure and have not expired: the items are as many as their keys.
use Rattle.std.proofs.Common.{◌≡◌, Bool, List, ℕ, filter, length, map, sym, ◌∙◌, ap}
use Rattle.std.specs.Prelude.{◌&&◌, Some}
use Rattle.std.proofs.lemmas.List.{length-map}
use Rattle.std.proofs.lemmas.List.Sorted.{length_permutation}
use Rattle.cookie_words.specs.Moments.{Moment}
use Rattle.cookie_parts.specs.Cookie.{is_secure_only}
use Rattle.cookie_parts.specs.Hosts.{passes}
use Rattle.cookie_laws.specs.Rows.{Key, is_unexpired, row_of, same_domain}
use Rattle.cookie_laws.specs.SecureLast.{is_secure_key}
use Rattle.cookie_lookup.specs.Groups.{flat}
use Rattle.cookie_rows.specs.Eviction.{count_secure, is_secure_item, paths_of}
use Rattle.cookie_rows.specs.Items.{AreItems, ItemGroups, bare, by_number, creation_order, numbered_paths}
use Rattle.cookie_rows.proofs.All.{all_map}
use Rattle.cookie_rows.proofs.Created.{texts_differ}
use Rattle.cookie_rows.proofs.FilteredGroups.{map-filter, map_filtered}
use Rattle.cookie_rows.proofs.FilteredItems.{created_near, row_of_item}
use Rattle.cookie_rows.proofs.Keyed.{Keyed, each_near, items_keyed, keyed, keyed_paths, numbers_keyed_in}
use Rattle.cookie_rows.proofs.Ordered.{ordered_filtered, ordered_moved}

-- the Secure rows of a domain are as many as the keys of Secure rows in it
pub secure_counted : (n : ℕ) (gs : ItemGroups) (a : AreItems n gs) (now : Moment) (key : Key)
    → count_secure now (paths_of key.domain gs) ≡ length (filter (is_secure_key now (flat (bare gs))) (filter (same_domain key) (creation_order gs)))
secure_counted n gs a now key =
    let rows = flat (bare gs) in
    let ps = paths_of key.domain gs in
    let own = keyed_paths key.domain ps in
    let number : Keyed → Key × ℕ = λ e. (e.0, e.1.number) in
    let first : Key × ℕ → Key = λ x. x.0 in
    let secure : Key × ℕ → Bool = λ x. is_secure_key now rows x.0 in
    let passing : List Keyed = filter (λ e. is_secure_item now e.1) own in
    let each = each_near key.domain (λ e. secure (number e) ≡ is_secure_item now e.1) gs (texts_differ gs a.0).0
    (all_map (λ (e : Keyed). row_of e.0 rows ≡ Some e.1.row) (λ e. secure (number e) ≡ is_secure_item now e.1) (λ e found. ap (passes (λ r. is_unexpired now r && is_secure_only r.raw)) found) (keyed gs) (row_of_item n gs a)) in
    let keys = ap (λ ks. filter (is_secure_key now rows) ks) (created_near key gs a.0)
    ∙ sym (map-filter first (is_secure_key now rows) (by_number (numbered_paths key.domain ps))) ∙ ap (map first) (sym (ordered_filtered secure (numbered_paths key.domain ps))) in
    let entries = ap (filter secure) (numbers_keyed_in key.domain ps) ∙ sym (map_filtered number secure (λ e. is_secure_item now e.1) own each) in
    let items = ap (filter (is_secure_item now)) (items_keyed key.domain ps) ∙ sym (map-filter (λ (e : Keyed). e.1) (is_secure_item now) own) in
    ap length items ∙ length-map passing (λ e. e.1) ∙ sym (length-map passing number) ∙ sym (ap length entries)
    ∙ sym (ap length keys ∙ length-map (by_number (filter secure (numbered_paths key.domain ps))) first
    ∙ length_permutation (filter secure (numbered_paths key.domain ps)) (by_number (filter secure (numbered_paths key.domain ps))) (ordered_moved (filter secure (numbered_paths key.domain ps))))
