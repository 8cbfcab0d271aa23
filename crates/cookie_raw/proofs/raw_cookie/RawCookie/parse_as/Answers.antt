use Rattle.cookie_raw.proofs.Slices.{pair_name_is_slice, pair_value_is_slice, domain_is_slice, path_is_slice}
use Rattle.cookie_raw.proofs.raw_cookie.RawCookie.parse_as.Goals as goal

pub returns-clause-slices : goal.returns-clause-slices
returns-clause-slices c = record {
  name = rw (c.in-Some.ensures.1, c.pair_and_rest.ensures.pair) (pair_name_is_slice c.args.syntax c.args.text.now c.utf8.text);
  value = rw (c.in-Some.ensures.2, c.pair_and_rest.ensures.pair) (pair_value_is_slice c.args.syntax c.args.text.now c.utf8.text);
  domain = rw (c.borrowed_part.ensures, c.of-attributes.ensures.domain, c.pair_and_rest.ensures.rest) (domain_is_slice c.args.syntax c.args.text.now c.utf8.text);
  path = rw (c.borrowed_part-2.ensures, c.of-attributes.ensures.path, c.pair_and_rest.ensures.rest) (path_is_slice c.args.syntax c.args.text.now c.utf8.text);
}
