use Rattle.std.proofs.Common.{◌++◌, ◌∙◌, ap, codes, false, option_map, refl, unwrap_or}
use Rattle.cookie_raw.specs.CookieText.{flag, is_for_all_sites, optional, site_text}
use Rattle.cookie_raw.proofs.StyledWrites.{plain_from_styled, styled_six}
use Rattle.cookie_raw.proofs.printing.write_pair.Goals as goal

pub returns-clause-styled : goal.returns-clause-styled
returns-clause-styled g c = λ flush ok.
    let name = c.in_ok-write_str.ensures.styled flush refl in
    let equals = c.in_ok-write_str-2.ensures.styled name.flush refl in
    let value = c.in_ok-write_str-3.ensures.styled equals.flush refl in
    let http_only = c.in_ok-write_flag.ensures.styled value.flush refl in
    let site = c.in_ok-write_site.ensures.styled http_only.flush refl in
    let secure = c.write_flag-2.ensures.styled site.flush ok in
    styled_six _ _ _ _ _ _ _ _ _ _ _ _ _ _ _ name equals value http_only site secure
    (λ i. c.name.ensures i ++ codes "=" ++ c.value.ensures i
    ++ flag (codes "; HttpOnly") ((c.unwrap_or.ensures ∙ ap (λ b. unwrap_or b false) c.http_only.ensures) i)
    ++ optional (codes "; SameSite=") (option_map site_text (c.same_site-same_site.ensures i))
    ++ flag (codes "; Secure") ((c.unwrap_or-secure.ensures ∙ (λ j. unwrap_or (c.secure.ensures j) ((c.is_for_all_sites.ensures ∙ ap is_for_all_sites c.same_site-same_site.ensures) j))) i))

pub returns-clause-writes : goal.returns-clause-writes
returns-clause-writes g c = plain_from_styled _ _ _ _ _ (returns-clause-styled g c)
