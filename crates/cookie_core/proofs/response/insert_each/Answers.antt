use Rattle.std.proofs.Common.{◌≡◌, ◌≢◌, ◌∷◌, ◌++◌, [], List, Result, Ok, Err, arith, rules}
use Rattle.std.proofs.lemmas.List.Sums.{fold-append}
use Rattle.std.proofs.lemmas.Result.{err_from_is_err_and}
use Rattle.url.specs.Parts.{Parts}
use Rattle.cookie_words.specs.Moments.{Moment, moment_of}
use Rattle.cookie_raw.specs.Raw.{Raw}
use Rattle.cookie_parts.specs.Cookie.{cookie_of}
use Rattle.cookie_parts.specs.declared.cookie_error.CookieError.{CookieError}
use Rattle.cookie_parts.specs.declared.cookie_error.CookieError.TheVariants.{Memory}
use Rattle.cookie_parts.specs.declared.store_action.StoreAction.{StoreAction}
use Rattle.cookie_laws.specs.Acceptance.{received}
use Rattle.cookie_laws.specs.Runs.{UnlessMemory}
use Rattle.cookie_laws.specs.Contents.{Contents}
use Rattle.cookie_core.specs.Responses.{Inserts}
use Rattle.cookie_core.proofs.EarlyErrors.{memory_is_not_early}
use Rattle.cookie_core.proofs.response.insert_each.Goals as goal

-- what holds unless out of memory holds if it is not
reported : (P : Type 0) (result : Result StoreAction CookieError) → UnlessMemory result P → result ≢ Err Memory → P
reported P (Ok action) holds some = holds
reported P (Err rejection) holds some = grind (arith, holds, some)

-- the store after one more raw cookie
taken_more : (url : Parts) (now : Moment) (raws : List Raw) (raw : Raw) (old mid new : Contents) → Inserts url now raws old mid
    → new ≡ (received mid (cookie_of raw url now) url now).store
    → Inserts url now (raws ++ raw ∷ []) old new
taken_more url now raws raw old mid new taken next = grind (arith, fold-append, taken, next)

pub loop-raw-preserved : goal.loop-raw-preserved
loop-raw-preserved g c =
    let next = reported _ c.take_raw.result c.take_raw.ensures.store c.in_ok-rejection.ensures.rejection.1 in
    record {
      can = search rules;
      ends = search rules;
      taken = taken_more c.args.url.now (moment_of c.args.now) c.loop-raw.yielded c.in-Some.raw _ _ _ c.loop-raw.invariant.taken next;
    }

pub returns-in_err-rejection-clause-stopped : goal.returns-in_err-rejection-clause-stopped
returns-in_err-rejection-clause-stopped g c =
    let p = err_from_is_err_and c.from_residual.result c.from_residual.ensures.1 in
    let want = c.in_err-rejection.ensures.memory in
    let not_early = memory_is_not_early (Ok c.in-Some.raw) c.args.url.now c.take_raw.result c.take_raw.ensures.early want in
    let kept = rw want at c.take_raw.ensures.unchanged in
    rw (p.1, kept) (c.loop-raw.yielded, c.in-Some.raw, search rules, not_early, c.loop-raw.invariant.taken)
