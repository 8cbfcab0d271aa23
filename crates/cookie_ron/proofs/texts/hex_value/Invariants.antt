use Rattle.std.proofs.Common.{◌≡◌, ◌^◌, ◌<◌, take, true}
use Rattle.std.specs.Char.{is_ascii_hexdigit}
use Rattle.std.specs.List.{list_all}
use Rattle.std.specs.Str.Parse.{digits_value}
use Rattle.cookie_ron.proofs.texts.hex_value.Given as goal

abbrev pub invariant-loop-digit : goal.invariant-loop-digit
invariant-loop-digit l = record {
  digits : list_all is_ascii_hexdigit (take l.digit-index l.digits) ≡ true;
  value : l.value ≡ digits_value 16 (take l.digit-index l.digits);
  bound : l.value < 16 ^ l.digit-index;
}
