-- The root of a host under the public suffix list of a store, and the number of its shard.
use Rattle.std.specs.Prelude.{ℕ, List, [], Option, Some, None, option_map, unwrap_or, Result, Ok, Err, IsSome}
use Rattle.std.specs.Option.{ok_or}
use Rattle.url.specs.Parts.{Parts}
use Rattle.cookie_psl.specs.Rules.{RuleList}
use Rattle.cookie_parts.specs.Cookie.{and_then}
use Rattle.cookie_parts.specs.Hosts.{host_of}
use Rattle.cookie_laws.specs.Contents.{Contents}
use Rattle.cookie_strict.specs.Roots.{root_of}
use Rattle.cookie_strict.specs.ShardNumber.{shard_of}
use Rattle.cookie_store_c.specs.Inputs.{parsed_url, text_in}
use Rattle.cookie_store_c.specs.declared.status.Status.{Status}
use Rattle.cookie_store_c.specs.declared.status.Status.TheVariants.{BadLimit, Done, NoList, NoStore}

-- the root of a URL's host, empty if it has none
abbrev pub root_text : RuleList → Parts → List ℕ
root_text rules url = unwrap_or (option_map (root_of rules) (host_of url)) []

-- the same for the string of a URL, or the status of an invalid one
abbrev pub url_root : List ℕ → RuleList → Result (List ℕ) Status
url_root url rules = and_then (parsed_url url) (λ parts. Ok (root_text rules parts))

-- the root of the domain of a cookie
abbrev pub domain_root : List ℕ → RuleList → Result (List ℕ) Status
domain_root domain rules = and_then (text_in domain) (λ text. Ok (root_of rules text))

-- a root under a list, or `NoList` if there is none
abbrev pub with_list : (RuleList → Result (List ℕ) Status) → Option RuleList → Result (List ℕ) Status
with_list root None = Err NoList
with_list root (Some rules) = root rules

-- a root under the list of a store, or `NoStore` if there is none
abbrev pub root_in : (RuleList → Result (List ℕ) Status) → Option Contents → Result (List ℕ) Status
root_in root None = Err NoStore
root_in root (Some store) = with_list root store.suffixes

-- there is a store, and it has a list
abbrev pub HasList : Option Contents → Type 0
HasList None = ⊥
HasList (Some store) = IsSome store.suffixes

-- the number of the shard of a root, or `BadLimit` if there are none
abbrev pub shard_in : List ℕ → ℕ → Result ℕ Status
shard_in root shards = and_then (text_in root) (λ text. ok_or (shard_of text shards) BadLimit)

-- the status, and the number of the shard after the call
pub record ShardOutcome : Type 0 where
  pub status : Status
  pub shard : ℕ

-- on an error the number is 0
abbrev pub shard_outcome : Result ℕ Status → ShardOutcome
shard_outcome (Ok shard) = record { status = Done; shard = shard }
shard_outcome (Err status) = record { status = status; shard = 0 }
