-- A Secure cookie is not overlaid from a URL that is not secure.
use Rattle.std.proofs.Common.{◌≡◌, ◌↔◌, ℕ, Bool, true, false, ◌&&◌, List, [], ◌∷◌, ◌++◌, Option, Some, None, Result, Ok, Err, ◌⊎◌, ⊎_elim, inl, refl, sym, ap, subst, ◌∙◌, append-nil, arith}
use Rattle.std.specs.Bool.{IsTrue}
use Rattle.std.specs.List.{find, list_any, All}
use Rattle.std.proofs.lemmas.Bool.{and_from, cases_Bool, cond_both, or_parts}
use Rattle.std.proofs.lemmas.List.Elements.{All-head, All-tail}
use Rattle.std.proofs.lemmas.Slice.Eq.{bytes_eq-Decides}
use Rattle.url.specs.Parts.{Parts}
use Rattle.cookie_words.specs.Moments.{Moment}
use Rattle.cookie_parts.specs.Cookie.{Row, and_then, is_secure_only}
use Rattle.cookie_parts.specs.Domain.{domain_text}
use Rattle.cookie_parts.specs.Hosts.{covers, passes}
use Rattle.cookie_parts.specs.Path.{covers_path, CoversPath}
use Rattle.cookie_parts.specs.declared.cookie_error.CookieError.{CookieError}
use Rattle.cookie_parts.specs.declared.store_action.StoreAction.{StoreAction}
use Rattle.cookie_parts.specs.declared.store_action.StoreAction.TheVariants.{Inserted, ExpiredExisting, UpdatedExisting}
use Rattle.cookie_laws.specs.Acceptance.{accept, received, IsEvicted}
use Rattle.cookie_laws.specs.Contents.{Contents, evicted}
use Rattle.cookie_laws.specs.Rows.{Key, has_key, is_unexpired, key_of, row_of, same_key, same_key-true}
use Rattle.cookie_laws.specs.Runs.{Call, Set, Insert, Remove, Clear, step, store_after}
use Rattle.cookie_laws.specs.SecureLast.{evicted_by, evicted_secure_last, is_full_of_secure, is_secure_key, removals}
use Rattle.cookie_core.specs.Overlaid.{is_overlaid}
use Rattle.cookie_strict.specs.HeaderValue.{pair_error, strict_cookie}
use Rattle.cookie_strict.specs.Lifetime.{limited_cookie}
use Rattle.cookie_strict.specs.SecureUrl.{is_secure_url}
use Rattle.cookie_strict.specs.StrictRules.{breaks_host_prefix, breaks_http_prefix, breaks_prefix, breaks_secure_prefix, broken_rule, evicts_secure, needs_secure_flag, needs_secure_url, overlays_secure}
use Rattle.cookie_strict.specs.StrictRuns.{allowed_insertion, if_accepted, site_reply, store_after_call, strict_call, strict_insertion, strict_store_after, unless_error, IsInsecureInsertion}
use Rattle.cookie_strict.specs.declared.error.StrictError.{StrictError}
use Rattle.cookie_strict.proofs.AdmittedCookies.{accepted-new}

-- one list of calls after another
pub store_after-append : (calls more : List Call) (store : Contents) → store_after (calls ++ more) store ≡ store_after more (store_after calls store)
store_after-append [] more store = refl
store_after-append (call ∷ calls) more store = store_after-append calls more (step call store).store

-- which rules a cookie keeps
pub record KeepsRules (cookie : Row) (url : Parts) (now : Moment) (store : Contents) : Type 0 where
  pub url_is_secure : needs_secure_url cookie url ≡ false
  pub host_prefix : breaks_host_prefix cookie ≡ false
  pub http_prefix : breaks_http_prefix cookie ≡ false
  pub overlays_none : overlays_secure cookie url now store.rows ≡ false
  pub evicts_none : evicts_secure cookie now store ≡ false

-- a cookie that breaks no rule keeps them all
pub keeps_rules : (cookie : Row) (url : Parts) (now : Moment) (store : Contents) → broken_rule cookie url now store ≡ None → KeepsRules cookie url now store
keeps_rules cookie url now store =
    let P : Option StrictError → Type 0 = λ broken. broken ≡ None → KeepsRules cookie url now store in
    cond_both (needs_secure_url cookie url) _ _ P (λ _ is. cc)
    (λ secure. cond_both (needs_secure_flag cookie) _ _ P (λ _ is. cc)
    (λ _. cond_both (breaks_prefix cookie) _ _ P (λ _ is. cc)
    (λ prefix. cond_both (overlays_secure cookie url now store.rows) _ _ P (λ _ is. cc)
    (λ overlays. cond_both (evicts_secure cookie now store) _ _ P (λ _ is. cc)
    (λ evicts is.
    let others = or_parts (breaks_host_prefix cookie) (breaks_http_prefix cookie) (or_parts (breaks_secure_prefix cookie) _ prefix).1 in
    record { url_is_secure = secure; host_prefix = others.0; http_prefix = others.1; overlays_none = overlays; evicts_none = evicts })))))

-- what is found passes no test that nothing passes
found_passes : {X : Type 0} (test other : X → Bool) (xs : List X) (x : X) → find test xs ≡ Some x → list_any other xs ≡ false
    → (test x ≡ true) × (other x ≡ false)
found_passes test other [] x found none = absurd (cc)
found_passes test other (y ∷ ys) x found none =
    let parts = or_parts (other y) (list_any other ys) none in
    ⊎_elim
    (λ passes. let same : x ≡ y = grind (arith, found, passes) in
    (ap test same ∙ passes, ap other same ∙ parts.0))
    (λ fails. found_passes test other ys x (grind (arith, found, fails)) parts.1)
    (cases_Bool (test y))

module _ (path_law : (path request : List ℕ) → IsTrue (covers_path path request) ↔ CoversPath path request) where
  -- a path path-matches itself
  covers_itself : (path : List ℕ) → covers_path path path ≡ true
  covers_itself path = (path_law path path).1 ([], sym (append-nil path), inl refl)

  -- a cookie overlays the Secure row of its key
  overlays_own : (cookie : Row) (now : Moment) (row : Row) → is_unexpired now row ≡ true → is_secure_only row.raw ≡ true → key_of row ≡ key_of cookie
      → is_overlaid cookie now row ≡ true
  overlays_own cookie now row unexpired secure same =
      let domain : domain_text row.domain ≡ domain_text cookie.domain = ap (λ (k : Key). k.domain) same in
      let path : row.path.text ≡ cookie.path.text = ap (λ (k : Key). k.path) same in
      let name : row.raw.name ≡ cookie.raw.name = ap (λ (k : Key). k.name) same in
      let own : covers (domain_text row.domain) (domain_text cookie.domain) ≡ true = rw ((bytes_eq-Decides (domain_text row.domain) (domain_text cookie.domain)).1 domain) refl in
      let below : covers_path row.path.text cookie.path.text ≡ true = ap (covers_path row.path.text) (sym path) ∙ covers_itself row.path.text in
      rw (unexpired, secure, (bytes_eq-Decides row.raw.name cookie.raw.name).1 name, own, below) refl

  -- so a cookie from a URL that is not secure has another key, if it breaks no rule
  other_key : (cookie : Row) (url : Parts) (now : Moment) (store : Contents) (key : Key) (row : Row) → KeepsRules cookie url now store
      → is_secure_url url ≡ false → row_of key store.rows ≡ Some row → is_unexpired now row ≡ true → is_secure_only row.raw ≡ true
      → same_key key (key_of cookie) ≡ false
  other_key cookie url now store key row keeps insecure held unexpired secure =
      let none : list_any (is_overlaid cookie now) store.rows ≡ false = grind (arith, keeps.url_is_secure, keeps.overlays_none, insecure) in
      let found = found_passes (has_key key) (is_overlaid cookie now) store.rows row held none in
      ⊎_elim
      (λ same. let own : key_of row ≡ key_of cookie = sym (same_key-true key (key_of row) found.0) ∙ same_key-true key (key_of cookie) same in
      let clash : true ≡ false = sym (overlays_own cookie now row unexpired secure own) ∙ found.1 in absurd (cc))
      (λ away. away)
      (cases_Bool (same_key key (key_of cookie)))

-- a cookie that is not Secure is not inserted into a domain that is full of Secure rows
pub not_full : (cookie : Row) (url : Parts) (now : Moment) (store : Contents) → KeepsRules cookie url now store → is_secure_only cookie.raw ≡ false
    → (accept store cookie url now).reply ≡ Ok Inserted → is_full_of_secure store now (key_of cookie) ≡ false
not_full cookie url now store keeps plain inserted =
    let new = accepted-new store cookie url now inserted in
    grind (arith, keeps.evicts_none, plain, new)

module _ (path_law : (path request : List ℕ) → IsTrue (covers_path path request) ↔ CoversPath path request)
    (others : (store : Contents) (cookie_result : Result Row CookieError) (url : Parts) (now : Moment) (cookie : Row) (key : Key) (row : Row)
    → cookie_result ≡ Ok cookie → same_key key (key_of cookie) ≡ false → row_of key store.rows ≡ Some row
    → (row_of key (received store cookie_result url now).store.rows ≡ Some row) ⊎ IsEvicted store cookie_result url now key)
    (evicts_no_more : (store : Contents) (now : Moment) (key : Key)
    → evicted (store_after (removals (evicted_secure_last store now key)) store) now key ≡ [])
    (secure_stays : (store : Contents) (now : Moment) (new key : Key) → is_full_of_secure store now new ≡ false
    → is_secure_key now store.rows key ≡ true
    → row_of key (store_after (removals (evicted_secure_last store now new)) store).rows ≡ row_of key store.rows) where
  -- an insertion that evicts nothing leaves the rows of other keys
  evicts_none-left : (store : Contents) (cookie : Row) (url : Parts) (now : Moment) (key : Key) (row : Row)
      → ((accept store cookie url now).reply ≡ Ok Inserted → evicted store now (key_of cookie) ≡ [])
      → same_key key (key_of cookie) ≡ false → row_of key store.rows ≡ Some row → row_of key (accept store cookie url now).store.rows ≡ Some row
  evicts_none-left store cookie url now key row none away held =
      ⊎_elim (λ left. left)
      (λ (other, same, inserted, among, gone).
      let own : cookie ≡ other = cc in
      let empty : evicted store now (key_of other) ≡ [] = ap (λ (c : Row). evicted store now (key_of c)) (sym own) ∙ none inserted in
      let clash : false ≡ true = subst (λ keys. IsTrue (list_any (same_key key) keys)) empty among in
      absurd (cc))
      (others store (Ok cookie) url now cookie key row refl away held)

  module _ (url : Parts) (now : Moment) (key : Key) (row : Row) (insecure : is_secure_url url ≡ false)
      (unexpired : is_unexpired now row ≡ true) (secure : is_secure_only row.raw ≡ true) where
    -- the store has the row
    abbrev pub HasRow : Contents → Type 0
    HasRow store = row_of key store.rows ≡ Some row

    -- the row stays under an insertion that breaks no rule, by the reply of the store
    inserted-left : (store : Contents) (cookie : Row) (reply : Result StoreAction CookieError) → HasRow store
        → reply ≡ (accept store cookie url now).reply → KeepsRules cookie url now store
        → HasRow (store_after (removals (evicted_by reply store now (key_of cookie)) ++ Insert cookie url now ∷ []) store)
    inserted-left store cookie (Ok Inserted) held is keeps =
        let removed = removals (evicted_secure_last store now (key_of cookie)) in
        let after = store_after removed store in
        let plain : is_secure_only cookie.raw ≡ false = grind (arith, keeps.url_is_secure, insecure) in
        let full = not_full cookie url now store keeps plain (sym is) in
        let is_secure_row : is_secure_key now store.rows key ≡ true =
        ap (passes (λ r. is_unexpired now r && is_secure_only r.raw)) held ∙ and_from _ _ unexpired secure in
        let still : HasRow after = secure_stays store now (key_of cookie) key full is_secure_row ∙ held in
        subst HasRow (sym (store_after-append removed (Insert cookie url now ∷ []) store))
        (evicts_none-left after cookie url now key row (λ _. evicts_no_more store now (key_of cookie))
        (other_key path_law cookie url now store key row keeps insecure held unexpired secure) still)
    inserted-left store cookie (Ok UpdatedExisting) held is keeps =
        evicts_none-left store cookie url now key row (λ inserted. absurd (cc))
        (other_key path_law cookie url now store key row keeps insecure held unexpired secure) held
    inserted-left store cookie (Ok ExpiredExisting) held is keeps =
        evicts_none-left store cookie url now key row (λ inserted. absurd (cc))
        (other_key path_law cookie url now store key row keeps insecure held unexpired secure) held
    inserted-left store cookie (Err error) held is keeps =
        evicts_none-left store cookie url now key row (λ inserted. absurd (cc))
        (other_key path_law cookie url now store key row keeps insecure held unexpired secure) held

    -- a cookie that the store accepts and that breaks no rule
    accepted-left : (store : Contents) (cookie : Row) (reply : Result StoreAction CookieError) (broken : Option StrictError) → HasRow store
        → broken ≡ broken_rule cookie url now store → HasRow (store_after_call (if_accepted reply broken (Insert cookie url now)) store)
    accepted-left store cookie (Err error) broken held is = held
    accepted-left store cookie (Ok action) (Some error) held is = held
    accepted-left store cookie (Ok action) None held is =
        inserted-left store cookie (accept store cookie url now).reply held refl (keeps_rules cookie url now store (sym is))

    unless_error-left : (store : Contents) (error : Option StrictError) (allowed : Result Call StrictError) → HasRow store
        → HasRow (store_after_call allowed store) → HasRow (store_after_call (unless_error error allowed) store)
    unless_error-left store None allowed held left = left
    unless_error-left store (Some error) allowed held left = held

    -- any cookie
    pub insertion-left : (store : Contents) (cookie : Row) → HasRow store → HasRow (store_after_call (strict_insertion cookie url now store) store)
    insertion-left store cookie held =
        let limited = limited_cookie now cookie in
        unless_error-left store (pair_error cookie.raw) (allowed_insertion limited url now store) held
        (accepted-left store limited (site_reply limited url now store) (broken_rule limited url now store) held refl)

    -- the cookie of a header value, or an error
    pub set-left : (store : Contents) (made : Result Row StrictError) → HasRow store
        → HasRow (store_after_call (and_then made (λ cookie. strict_insertion cookie url now store)) store)
    set-left store (Err error) held = held
    set-left store (Ok cookie) held = insertion-left store cookie held

  -- a call, if it is such an insertion
  call-left : (call : Call) (store : Contents) (key : Key) (row : Row) → IsInsecureInsertion row call → is_secure_only row.raw ≡ true
      → row_of key store.rows ≡ Some row → row_of key (store_after_call (strict_call call store) store).rows ≡ Some row
  call-left (Set text url now) store key row (insecure, unexpired) secure held =
      set-left url now key row insecure unexpired secure store (strict_cookie text url now) held
  call-left (Insert cookie url now) store key row (insecure, unexpired) secure held =
      insertion-left url now key row insecure unexpired secure store cookie held
  call-left (Remove other) store key row is secure held = absurd is
  call-left Clear store key row is secure held = absurd is

  -- and calls
  pub calls-left : (calls : List Call) (store : Contents) (key : Key) (row : Row) → All (IsInsecureInsertion row) calls → is_secure_only row.raw ≡ true
      → row_of key store.rows ≡ Some row → row_of key (strict_store_after calls store).rows ≡ Some row
  calls-left [] store key row all secure held = held
  calls-left (call ∷ calls) store key row all secure held =
      calls-left calls (store_after_call (strict_call call store) store) key row (All-tail (IsInsecureInsertion row) call calls all) secure
      (call-left call store key row (All-head (IsInsecureInsertion row) call calls all) secure held)
