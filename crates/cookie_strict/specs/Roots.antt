-- The outermost site of a host. Sites nest: if a list has the rules `jp` and `*.kobe.jp`, the site of `a.b.kobe.jp` is that
-- name, and lies within the site `kobe.jp`. Under the rules a cookie stays within the outermost one, its root.
use Rattle.std.specs.Prelude.{ℕ, Bool, List, [], ◌∷◌, filter, is_some, if◌then◌else◌}
use Rattle.cookie_parts.specs.Hosts.{is_host_name}
use Rattle.cookie_psl.specs.Rules.{RuleList, registrable_domain}
use Rattle.cookie_laws.specs.Related.{after_dots}

-- the domain is not its own public suffix
abbrev pub is_registrable : RuleList → List ℕ → Bool
is_registrable rules domain = is_some (registrable_domain rules domain)

-- the last item of a list, or another if it is empty
abbrev pub last_or : {T : Type 0} → T → List T → T
last_or other [] = other
last_or other (x ∷ xs) = last_or x xs

-- the root of a host name is the shortest of it and what follows its dots that is no public suffix, or the name itself if there
-- is none; the root of an IP address is the address
abbrev pub root_of : RuleList → List ℕ → List ℕ
root_of rules host = if is_host_name host then last_or host (filter (is_registrable rules) (after_dots host)) else host
