-- What one more attribute changes of the Domain and SameSite attributes parsed so far.
use Rattle.std.specs.Prelude.{ℕ, List, codes, Option, Some, None, if◌then◌else◌}
use Rattle.std.specs.Option.{option_or}
use Rattle.cookie_raw.specs.Rfc6265bis.{any_named, is_ignored, name_by, unless_empty, value_by}
use Rattle.cookie_raw.specs.SetCookie.{domain_from, same_site_from, site_of}
use Rattle.cookie_raw.specs.declared.same_site.SameSite.{SameSite}
use Rattle.cookie_raw.specs.declared.syntax.Syntax.{Syntax}
use Rattle.cookie_raw.specs.declared.syntax.Syntax.TheVariants.{Rfc6265, Rfc6265bis}

-- what the value of an attribute decides, or what was found so far if there is no such attribute
abbrev pub decided : {T : Type 0} → (List ℕ → Option T) → Option (List ℕ) → Option T → Option T
decided reads None found = found
decided reads (Some value) found = reads value

-- the Domain attribute after an attribute of this name and value
abbrev pub decided_domain : Syntax → List ℕ → List ℕ → Option (List ℕ) → Option (List ℕ)
decided_domain Rfc6265 name value found = option_or (domain_from name value) found
decided_domain Rfc6265bis name value found = decided unless_empty (any_named (codes "Domain") name value) found

-- the SameSite attribute after an attribute of this name and value
abbrev pub decided_same_site : Syntax → List ℕ → List ℕ → Option SameSite → Option SameSite
decided_same_site Rfc6265 name value found = option_or (same_site_from name value) found
decided_same_site Rfc6265bis name value found = decided site_of (any_named (codes "SameSite") name value) found

-- the Domain attribute after one more attribute
abbrev pub domain_after : Syntax → List ℕ → Option (List ℕ) → Option (List ℕ)
domain_after syntax piece found =
    if is_ignored syntax (value_by syntax piece) then found
    else decided_domain syntax (name_by syntax piece) (value_by syntax piece) found

-- the SameSite attribute after one more attribute
abbrev pub same_site_after : Syntax → List ℕ → Option SameSite → Option SameSite
same_site_after syntax piece found =
    if is_ignored syntax (value_by syntax piece) then found
    else decided_same_site syntax (name_by syntax piece) (value_by syntax piece) found
