-- What one insertion stores and expires, and what it leaves unchanged.
use Rattle.std.proofs.Common.{◌≡◌, true, false, not, ◌&&◌, List, Option, Some, None, Result, Ok, Err, ◌⊎◌, ⊎_elim, inl, inr, subst, ◌∙◌, refl, sym, ap, arith}
use Rattle.std.specs.List.{list_any}
use Rattle.std.proofs.lemmas.Bool.{cond_both, cond-true, and_from, not-true, both_ways, cases_Bool}
use Rattle.url.specs.Parts.{Parts}
use Rattle.cookie_words.specs.Moments.{Moment}
use Rattle.cookie_psl.specs.Rules.{RuleList}
use Rattle.cookie_parts.specs.Cookie.{Row, and_then, expired_row, is_out_of_reach}
use Rattle.cookie_parts.specs.Domain.{HostOnly, domain_matches, domain_text, host_is_identical}
use Rattle.cookie_parts.specs.declared.cookie_error.CookieError.{CookieError}
use Rattle.cookie_parts.specs.declared.cookie_error.CookieError.TheVariants.{NonHttpScheme, DomainMismatch, PublicSuffix}
use Rattle.cookie_parts.specs.declared.store_action.StoreAction.{StoreAction}
use Rattle.cookie_parts.specs.declared.store_action.StoreAction.TheVariants.{Inserted, ExpiredExisting, UpdatedExisting}
use Rattle.cookie_laws.specs.Contents.{Contents, evicted, without}
use Rattle.cookie_laws.specs.Rows.{Key, changed, has_key, is_unexpired, key_of, row_of, same_key, same_key-true}
use Rattle.cookie_laws.specs.Acceptance.{Outcome, IsPut, by_scheme, is_listed, by_list, by_domain, admitted, put_action, reply_at, store_by, outcome_by, outcome_after_checks, accept}
use Rattle.cookie_laws.proofs.AcceptanceOfKeys.{HasKey, admitted-HasKey}
use Rattle.cookie_laws.proofs.RowsByKey.{row_of-expired_row, row_of-expired_other, row_of-leaves, row_of-put, row_of-put_other, row_of-stays}

-- a row whose domain is on the list, if there is one, is for that host alone
abbrev IsOwnIfListed : Option RuleList → Row → Type 0
IsOwnIfListed suffixes row = is_listed suffixes row.domain ≡ true → row.domain ≡ HostOnly (domain_text row.domain)

-- and so is the cookie, if there is one
abbrev MakesOwn : Option RuleList → Result Row CookieError → Type 0
MakesOwn suffixes (Ok cookie) = IsOwnIfListed suffixes cookie
MakesOwn suffixes (Err rejection) = Unit {0}

-- a step that makes it so, after any other
and_then-makes : (suffixes : Option RuleList) (cookie_result : Result Row CookieError) (next : Row → Result Row CookieError) → ((cookie : Row) → MakesOwn suffixes (next cookie)) → MakesOwn suffixes (and_then cookie_result next)
and_then-makes suffixes (Ok cookie) next after = after cookie
and_then-makes suffixes (Err rejection) next after = tt

-- and so does a step that preserves it, after one that makes it hold
and_then-keeps : (suffixes : Option RuleList) (cookie_result : Result Row CookieError) (next : Row → Result Row CookieError) → MakesOwn suffixes cookie_result → ((cookie : Row) → IsOwnIfListed suffixes cookie → MakesOwn suffixes (next cookie)) → MakesOwn suffixes (and_then cookie_result next)
and_then-keeps suffixes (Ok cookie) next own after = after cookie own
and_then-keeps suffixes (Err rejection) next own after = tt

-- step 5 makes it so
by_list-makes : (suffixes : Option RuleList) (url : Parts) (cookie : Row) → MakesOwn suffixes (by_list suffixes url cookie)
by_list-makes suffixes url cookie =
    let own : Row = record cookie { domain = HostOnly (domain_text cookie.domain) } in
    let listed = is_listed suffixes cookie.domain in
    cond_both (not listed) (Ok cookie) _ (MakesOwn suffixes)
    (λ free at. absurd (both_ways listed (not-true listed free) at))
    (λ _. cond_both (host_is_identical cookie.domain url) (Ok own) (Err PublicSuffix) (MakesOwn suffixes) (λ _ _. refl) (λ _. tt))

-- step 6 keeps it so
by_domain-keeps : (suffixes : Option RuleList) (url : Parts) (cookie : Row) → IsOwnIfListed suffixes cookie → MakesOwn suffixes (by_domain url cookie)
by_domain-keeps suffixes url cookie own =
    cond_both (domain_matches cookie.domain url) (Ok cookie) (Err DomainMismatch) (MakesOwn suffixes) (λ _. own) (λ _. tt)

-- an admitted cookie is a host-only cookie if its domain is listed
admitted-own : (suffixes : Option RuleList) (url : Parts) (cookie : Row) → MakesOwn suffixes (admitted suffixes url cookie)
admitted-own suffixes url cookie =
    and_then-keeps suffixes (and_then (by_scheme url cookie) (by_list suffixes url)) (by_domain url)
    (and_then-makes suffixes (by_scheme url cookie) (by_list suffixes url) (by_list-makes suffixes url))
    (by_domain-keeps suffixes url)

-- after a reply that the cookie was stored, it is the row of its key
row_of-store_by : (reply : Result StoreAction CookieError) (store : Contents) (cookie : Row) (now : Moment) → IsPut reply → row_of (key_of cookie) (store_by reply store cookie now).rows ≡ Some cookie
row_of-store_by reply store cookie now (inl new) =
    let rest = without (evicted store now (key_of cookie)) store in
    ap (λ r. row_of (key_of cookie) (store_by r store cookie now).rows) new ∙ row_of-put rest.rows cookie
row_of-store_by reply store cookie now (inr again) =
    ap (λ r. row_of (key_of cookie) (store_by r store cookie now).rows) again ∙ row_of-put store.rows cookie

-- an error is no such reply
pub rejected-put : (rejection : CookieError) → IsPut (Err rejection) → ⊥
rejected-put rejection h = ⊎_elim (λ new. grind (arith, new)) (λ again. grind (arith, again)) h

-- the admitted cookie, and what holds of it once it is stored
abbrev IsStoredAsOwn : Option RuleList → Key → Result Row CookieError → List Row → Type 0
IsStoredAsOwn suffixes key cookie_result rows = (cookie : Row) × (cookie_result ≡ Ok cookie) × (row_of key rows ≡ Some cookie) × IsOwnIfListed suffixes cookie

-- a cookie of the key that is stored is the row of that key
outcome_after_checks-put : (key : Key) (cookie_result : Result Row CookieError) (url : Parts) (now : Moment) (store : Contents) → HasKey key cookie_result → MakesOwn store.suffixes cookie_result → IsPut (outcome_after_checks cookie_result url now store).reply
    → IsStoredAsOwn store.suffixes key cookie_result (outcome_after_checks cookie_result url now store).store.rows
outcome_after_checks-put key (Err rejection) url now store same own was_put = absurd (rejected-put rejection was_put)
outcome_after_checks-put key (Ok cookie) url now store same own was_put =
    let reply = reply_at (row_of (key_of cookie) store.rows) cookie url now in
    let found : row_of key (store_by reply store cookie now).rows ≡ Some cookie =
    ap (λ k. row_of k (store_by reply store cookie now).rows) (sym same) ∙ row_of-store_by reply store cookie now was_put in
    (cookie, refl, found, own)

-- the same for any received cookie
pub accept-put : (store : Contents) (cookie : Row) (url : Parts) (now : Moment) → IsPut (accept store cookie url now).reply
    → IsStoredAsOwn store.suffixes (key_of cookie) (admitted store.suffixes url cookie) (accept store cookie url now).store.rows
unfolding accept
accept-put store cookie url now was_put =
    outcome_after_checks-put (key_of cookie) (admitted store.suffixes url cookie) url now store
    (admitted-HasKey store.suffixes url cookie) (admitted-own store.suffixes url cookie) was_put

-- if a cookie of the key expires a row, that is the row of the key, and everything else is unchanged
outcome_after_checks-ends : (key : Key) (cookie_result : Result Row CookieError) (url : Parts) (now : Moment) (store : Contents) → HasKey key cookie_result → (outcome_after_checks cookie_result url now store).reply ≡ Ok ExpiredExisting
    → (outcome_after_checks cookie_result url now store).store ≡ record store { rows = changed (has_key key) expired_row store.rows }
outcome_after_checks-ends key (Err rejection) url now store same ends = absurd (grind (arith, ends))
outcome_after_checks-ends key (Ok cookie) url now store same ends =
    ap (λ reply. store_by reply store cookie now) ends ∙ ap {B = Contents} (λ k. record store { rows = changed (has_key k) expired_row store.rows }) same

-- the same for any received cookie
pub accept-ends : (store : Contents) (cookie : Row) (url : Parts) (now : Moment) → (accept store cookie url now).reply ≡ Ok ExpiredExisting
    → (accept store cookie url now).store ≡ record store { rows = changed (has_key (key_of cookie)) expired_row store.rows }
unfolding accept
accept-ends store cookie url now ends =
    outcome_after_checks-ends (key_of cookie) (admitted store.suffixes url cookie) url now store (admitted-HasKey store.suffixes url cookie) ends

-- only the reply to an unexpired row can be `ExpiredExisting`
put_action-not_expiring : (row : Option Row) → put_action row ≡ ExpiredExisting → ⊥
put_action-not_expiring None ends = grind (arith, ends)
put_action-not_expiring (Some row) ends = grind (arith, ends)

-- there is a row, and it has not expired
abbrev HasUnexpired : Moment → Option Row → Type 0
HasUnexpired now held = (row : Row) × (held ≡ Some row) × (is_unexpired now row ≡ true)

-- `ExpiredExisting` is the reply to such a row
reply_at-live : (held : Option Row) (cookie : Row) (url : Parts) (now : Moment) → reply_at held cookie url now ≡ Ok ExpiredExisting → HasUnexpired now held
reply_at-live None cookie url now ends = absurd (grind (arith, ends, put_action-not_expiring None))
reply_at-live (Some row) cookie url now ends = (row, refl, grind (arith, ends, put_action-not_expiring (Some row)))

-- so the row of the cookie's key had not expired
outcome_after_checks-live : (key : Key) (cookie_result : Result Row CookieError) (url : Parts) (now : Moment) (store : Contents) → HasKey key cookie_result → (outcome_after_checks cookie_result url now store).reply ≡ Ok ExpiredExisting
    → HasUnexpired now (row_of key store.rows)
outcome_after_checks-live key (Err rejection) url now store same ends = absurd (grind (arith, ends))
outcome_after_checks-live key (Ok cookie) url now store same ends =
    let live : HasUnexpired now (row_of (key_of cookie) store.rows) = reply_at-live (row_of (key_of cookie) store.rows) cookie url now ends in
    (live.0, ap (λ k. row_of k store.rows) (sym same) ∙ live.1, live.2)

-- the same for any received cookie
pub accept-live : (store : Contents) (cookie : Row) (url : Parts) (now : Moment) → (accept store cookie url now).reply ≡ Ok ExpiredExisting
    → HasUnexpired now (row_of (key_of cookie) store.rows)
unfolding accept
accept-live store cookie url now ends =
    outcome_after_checks-live (key_of cookie) (admitted store.suffixes url cookie) url now store (admitted-HasKey store.suffixes url cookie) ends

-- the row that was expired
pub accept-row_expired : (store : Contents) (cookie : Row) (url : Parts) (now : Moment) (row : Row) → (accept store cookie url now).reply ≡ Ok ExpiredExisting
    → row_of (key_of cookie) store.rows ≡ Some row → row_of (key_of cookie) (accept store cookie url now).store.rows ≡ Some (expired_row row)
accept-row_expired store cookie url now row ends held =
    ap (λ after. row_of (key_of cookie) after.rows) (accept-ends store cookie url now ends) ∙ row_of-expired_row (key_of cookie) store.rows row held

-- the row of another key is unchanged
pub accept-other_row : (store : Contents) (cookie : Row) (url : Parts) (now : Moment) (key : Key) → (accept store cookie url now).reply ≡ Ok ExpiredExisting
    → same_key key (key_of cookie) ≡ false → row_of key (accept store cookie url now).store.rows ≡ row_of key store.rows
accept-other_row store cookie url now key ends away =
    ap (λ after. row_of key after.rows) (accept-ends store cookie url now ends) ∙ row_of-expired_other key (key_of cookie) store.rows away

-- an unexpired HttpOnly row rejects every cookie of a scheme that is not HTTP
reply_at-guarded : (row cookie : Row) (url : Parts) (now : Moment) → is_unexpired now row ≡ true → is_out_of_reach row.raw url ≡ true → reply_at (Some row) cookie url now ≡ Err NonHttpScheme
reply_at-guarded row cookie url now live out =
    cond-true (is_unexpired now row && is_out_of_reach row.raw url) _ _ (and_from (is_unexpired now row) (is_out_of_reach row.raw url) live out)

-- so a cookie of its key leaves the store unchanged
outcome_after_checks-guarded_same : (key : Key) (cookie_result : Result Row CookieError) (url : Parts) (now : Moment) (store : Contents) (row : Row) → HasKey key cookie_result
    → row_of key store.rows ≡ Some row → is_unexpired now row ≡ true → is_out_of_reach row.raw url ≡ true → (outcome_after_checks cookie_result url now store).store ≡ store
outcome_after_checks-guarded_same key (Err rejection) url now store row same held live out = refl
outcome_after_checks-guarded_same key (Ok cookie) url now store row same held live out =
    let found : row_of (key_of cookie) store.rows ≡ Some row = ap (λ k. row_of k store.rows) same ∙ held in
    ap (λ reply. store_by reply store cookie now)
    (ap (λ r. reply_at r cookie url now) found ∙ reply_at-guarded row cookie url now live out)

-- the same for any received cookie of that key
accept-guarded_same : (store : Contents) (cookie : Row) (url : Parts) (now : Moment) (row : Row)
    → row_of (key_of cookie) store.rows ≡ Some row → is_unexpired now row ≡ true → is_out_of_reach row.raw url ≡ true → (accept store cookie url now).store ≡ store
unfolding accept
accept-guarded_same store cookie url now row held live out =
    outcome_after_checks-guarded_same (key_of cookie) (admitted store.suffixes url cookie) url now store row (admitted-HasKey store.suffixes url cookie) held live out

-- the row of the key is evicted for a cookie of the other key that is inserted, and is no longer stored
abbrev IsEvictedFor : Contents → Moment → Key → Key → Outcome → Type 0
IsEvictedFor store now key own outcome =
    (outcome.reply ≡ Ok Inserted) × (list_any (same_key key) (evicted store now own) ≡ true) × (row_of key outcome.store.rows ≡ None)

-- the row of the key is unchanged or evicted
abbrev StaysOrIsEvicted : Contents → Moment → Key → Key → Outcome → Type 0
StaysOrIsEvicted store now key own outcome = (row_of key outcome.store.rows ≡ row_of key store.rows) ⊎ IsEvictedFor store now key own outcome

-- one of both becomes of it under each reply to a cookie of another key
outcome_by-other : (reply : Result StoreAction CookieError) (store : Contents) (cookie : Row) (now : Moment) (key : Key) → same_key key (key_of cookie) ≡ false
    → StaysOrIsEvicted store now key (key_of cookie) (outcome_by reply store cookie now)
outcome_by-other (Ok Inserted) store cookie now key away =
    let keys = evicted store now (key_of cookie) in
    let rest = without keys store in
    let put_other = row_of-put_other key rest.rows cookie away in
    ⊎_elim (λ leaves. inr (refl, leaves, put_other ∙ row_of-leaves keys key store leaves))
    (λ stays. inl (put_other ∙ row_of-stays keys key store stays))
    (cases_Bool (list_any (same_key key) keys))
outcome_by-other (Ok UpdatedExisting) store cookie now key away = inl (row_of-put_other key store.rows cookie away)
outcome_by-other (Ok ExpiredExisting) store cookie now key away = inl (row_of-expired_other key (key_of cookie) store.rows away)
outcome_by-other (Err rejection) store cookie now key away = inl refl

-- the same for an admitted cookie, or an error
outcome_after_checks-other_key : (own : Key) (cookie_result : Result Row CookieError) (url : Parts) (now : Moment) (store : Contents) (key : Key) → HasKey own cookie_result → same_key key own ≡ false
    → StaysOrIsEvicted store now key own (outcome_after_checks cookie_result url now store)
outcome_after_checks-other_key own (Err rejection) url now store key same away = inl refl
outcome_after_checks-other_key own (Ok cookie) url now store key same away =
    let reply = reply_at (row_of (key_of cookie) store.rows) cookie url now in
    subst (λ k. StaysOrIsEvicted store now key k (outcome_by reply store cookie now)) same
    (outcome_by-other reply store cookie now key (ap (same_key key) same ∙ away))

-- and for any received cookie
pub accept-other_key : (store : Contents) (cookie : Row) (url : Parts) (now : Moment) (key : Key) → same_key key (key_of cookie) ≡ false
    → StaysOrIsEvicted store now key (key_of cookie) (accept store cookie url now)
unfolding accept
accept-other_key store cookie url now key away =
    outcome_after_checks-other_key (key_of cookie) (admitted store.suffixes url cookie) url now store key (admitted-HasKey store.suffixes url cookie) away

-- so no cookie from that URL changes that row, except that it may be evicted for an inserted cookie
pub accept-guarded : (store : Contents) (cookie : Row) (url : Parts) (now : Moment) (key : Key) (row : Row)
    → row_of key store.rows ≡ Some row → is_unexpired now row ≡ true → is_out_of_reach row.raw url ≡ true
    → (row_of key (accept store cookie url now).store.rows ≡ Some row) ⊎ IsEvictedFor store now key (key_of cookie) (accept store cookie url now)
accept-guarded store cookie url now key row held live out =
    ⊎_elim (λ same.
    let found : row_of (key_of cookie) store.rows ≡ Some row = ap (λ k. row_of k store.rows) (sym (same_key-true key (key_of cookie) same)) ∙ held in
    inl (ap (λ after. row_of key after.rows) (accept-guarded_same store cookie url now row found live out) ∙ held))
    (λ away. ⊎_elim (λ stays. inl (stays ∙ held)) (λ leaves. inr leaves) (accept-other_key store cookie url now key away))
    (cases_Bool (same_key key (key_of cookie)))
