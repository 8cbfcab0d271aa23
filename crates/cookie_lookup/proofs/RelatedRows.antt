-- The domain and the path of a row that is given for a URL are candidates of the URL.
use Rattle.std.proofs.Common.{◌≡◌, ℕ, true, List, ◌∷◌, [], bytes_eq, Option, Some, None, nat_eq, refl}
use Rattle.std.specs.List.{list_any, starts_with}
use Rattle.std.proofs.lemmas.Bool.{and_parts}
use Rattle.url.specs.Parts.{Parts}
use Rattle.cookie_words.specs.Moments.{Moment}
use Rattle.cookie_parts.specs.Cookie.{Row}
use Rattle.cookie_parts.specs.Hosts.{host_of, passes}
use Rattle.cookie_parts.specs.Path.{covers_path}
use Rattle.cookie_laws.specs.Given.{is_given}
use Rattle.cookie_laws.specs.Related.{is_related}
use Rattle.cookie_lookup.specs.Candidates.{candidate_domains, url_candidate_domains}

-- a related domain is a candidate of the URL
pub related_among : (url : Parts) (domain : List ℕ) → is_related url domain ≡ true → list_any (bytes_eq domain) (url_candidate_domains url) ≡ true
related_among url domain is = go (host_of url) refl is
  where
    go : (host : Option (List ℕ)) → host_of url ≡ host → passes (λ h. list_any (bytes_eq domain) (candidate_domains h)) host ≡ true → list_any (bytes_eq domain) (url_candidate_domains url) ≡ true
    go None e is = cc
    go (Some host) e is = rw (url_candidate_domains, e) is

-- its path passes the test of the URL's path, and begins with a slash
pub given_path : (url : Parts) (now : Moment) (row : Row) → is_given url now row ≡ true
    → (covers_path row.path.text url.path ≡ true) × (starts_with nat_eq row.path.text (47 ∷ []) ≡ true)
given_path url now row is =
    let matches = (and_parts _ _ (and_parts _ _ (and_parts _ _ is).0).0).1 in
    let for_url = (and_parts _ _ (and_parts _ _ (and_parts _ _ matches).0).0).1 in
    ((and_parts _ _ for_url).1, (and_parts _ _ is).1)
