use Rattle.std.proofs.Common.{◌≡◌, ℕ, true, false, List, [], Some}
use Rattle.std.specs.List.{All}
use Rattle.url.specs.Parts.{Parts}
use Rattle.cookie_words.specs.Moments.{Moment}
use Rattle.cookie_psl.specs.Rules.{RuleList}
use Rattle.cookie_parts.specs.Hosts.{host_of}
use Rattle.cookie_laws.specs.Contents.{Contents}
use Rattle.cookie_laws.specs.Given.{given}
use Rattle.cookie_laws.specs.Restricted.{is_row_of}
use Rattle.cookie_laws.specs.Runs.{Call}
use Rattle.cookie_strict.specs.Roots.{root_of}
use Rattle.cookie_strict.specs.Shards.{is_below_ipv4, is_for_shard, shard_calls}
use Rattle.cookie_strict.specs.StrictRuns.{allowed_calls, strict_store_after}
use Rattle.cookie_strict.proofs.ShardRuns.{for_shard, given-own, same_part, same_replies, separate-safe}
use Rattle.cookie_strict.proofs.ShardSteps.{has_root, is_apart, Laws}
use Rattle.cookie_strict.proofs.laws.sharded.Goals as goal

pub returns : goal.returns
returns c =
    let laws : (rules : RuleList) (root : List ℕ) → Laws rules root = λ rules root. record {
      row = c.restricted_to_domains.ensures.row (has_root rules root);
      full = c.restricted_to_domains.ensures.full (has_root rules root);
      call = c.restricted_to_domains.ensures.call (has_root rules root);
      other_call = c.restricted_to_domains.ensures.other_call (has_root rules root);
      secure_last = c.restricted_to_domains.ensures.secure_last (has_root rules root);
      other_secure_last = c.restricted_to_domains.ensures.other_secure_last (has_root rules root);
      inserted = c.preserved_by_calls.ensures.inserted (is_apart rules root);
      removed_row = c.preserved_by_calls.ensures.removed (is_apart rules root);
    } in
    let own : (rules : RuleList) (url : Parts) (host : List ℕ) (now : Moment) (calls : List Call) (store : Contents) → store.rows ≡ [] → store.suffixes ≡ Some rules
    → host_of url ≡ Some host → is_below_ipv4 host ≡ false
    → All (λ row. is_row_of (has_root rules (root_of rules host)) row ≡ true) (given url now (strict_store_after calls store).rows) =
    λ rules url host now calls store empty list at above. given-own rules url host now calls store list at above (c.strict_is_a_filter.ensures calls store)
    (c.accepted.ensures (allowed_calls calls store) store empty) in
    record {
      given = λ rules shard url host now calls store empty list at separate.
          let ((above, none), mixed) = separate in
          let root = root_of rules host in
          let keeps = is_for_shard rules shard (shard root) in
          let safe = separate-safe rules host (laws rules root) calls store.rows empty mixed in
          c.restricted_to_domains.ensures.given (has_root rules root) url now
          (strict_store_after calls store) (strict_store_after (shard_calls rules shard host calls) store)
          (same_part rules host (laws rules root) keeps (for_shard rules shard host) calls store list none safe)
          (own rules url host now calls store empty list at above) (own rules url host now (shard_calls rules shard host calls) store empty list at above);
      header = λ rules shard url host now calls store cookies empty list at separate.
          let ((above, none), mixed) = separate in
          let root = root_of rules host in
          let keeps = is_for_shard rules shard (shard root) in
          let safe = separate-safe rules host (laws rules root) calls store.rows empty mixed in
          c.restricted_to_domains.ensures.header (has_root rules root) url now
          (strict_store_after calls store) (strict_store_after (shard_calls rules shard host calls) store) cookies
          (same_part rules host (laws rules root) keeps (for_shard rules shard host) calls store list none safe)
          (own rules url host now calls store empty list at above) (own rules url host now (shard_calls rules shard host calls) store empty list at above);
      replies = λ rules shard host calls store empty list separate.
          let ((above, none), mixed) = separate in
          let root = root_of rules host in
          let keeps = is_for_shard rules shard (shard root) in
          let safe = separate-safe rules host (laws rules root) calls store.rows empty mixed in
          same_replies rules host (laws rules root) keeps (for_shard rules shard host) calls store list none safe;
    }
