use Rattle.std.proofs.Common.{◌≡◌, ◌-◌, ◌∷◌, Some, None, arith}
use Rattle.json.specs.Token.{Token}
use Rattle.json.specs.Json.{read_key}
use Rattle.json.proofs.Grammar.{read_key-shorter}
use Rattle.serde_json.specs.Data.{object}
use Rattle.cookie_forms.proofs.ReadMembers.{member_is_read, members_are_read, no_member_read, shape_found}
use Rattle.cookie_forms.proofs.ReadTokens.{shorter}
use Rattle.cookie_forms.proofs.text_reader.read_parts.Goals as goal

pub members-init : goal.members-init
members-init c = λ depth some. no_member_read depth c.next_token.new.reader

pub members-smaller : goal.members-smaller
members-smaller c =
    let key : read_key c.members.reader ≡ Some (Some c.in-Some.name.now, c.next_key.new.self) = grind arith in
    let value = c.in_ok-read_member.ensures 1 (omega arith) in
    let less = read_key-shorter c.members.reader (Some c.in-Some.name.now) c.next_key.new.self key in
    let lesser = shorter 1 c.next_key.new.self c.read_member.new.reader value.0 value.1 in
    omega arith

pub members-preserved : goal.members-preserved
members-preserved c =
    let key : read_key c.members.reader ≡ Some (Some c.in-Some.name.now, c.next_key.new.self) = grind arith in
    λ depth some.
    let value = c.in_ok-read_member.ensures depth some in
    member_is_read depth c.next_token.new.reader c.members.reader c.next_key.new.self c.read_member.new.reader c.in-Some.name.now value.0
    c.members.found c.read_member.new.found (c.members.invariant depth some) key value.1 value.2

pub returns : goal.returns
returns c =
    let opened : c.args.reader.now ≡ Token.begin_object ∷ c.next_token.new.reader = grind arith in
    let closed : read_key c.members.reader ≡ Some (None, c.next_key.new.self) = grind arith in
    λ depth two.
    let all = members_are_read depth c.next_token.new.reader c.members.reader c.next_key.new.self c.members.found (omega arith)
    (c.members.invariant (depth - 1) (omega arith)) closed in
    (object all.0, rw opened all.1, shape_found all.0 c.members.found _ all.2 c.in_ok-found.was c.in_ok-path.was c.in_ok-found-2.was c.in_ok-found-3.was)
