use Rattle.std.proofs.Common.{◌≡◌, ◌∷◌, arith}
use Rattle.json.specs.Token.{Token}
use Rattle.cookie_forms.proofs.ReadTokens.{named_ends_read, tagged_ends_read}
use Rattle.cookie_forms.proofs.text_reader.read_expiry.Goals as goal

pub returns-in-String : goal.returns-in-String
returns-in-String c =
    let is : c.args.reader.now ≡ Token.string c.in-String.name.now ∷ c.next_token.new.reader = grind arith in
    rw is (named_ends_read c.expiry_named.result c.in-String.name.now c.next_token.new.reader c.expiry_named.ensures)

pub returns-in_ok-tag-in-BeginObject : goal.returns-in_ok-tag-in-BeginObject
returns-in_ok-tag-in-BeginObject c =
    let is : c.args.reader.now ≡ Token.begin_object ∷ c.next_token.new.reader = grind arith in
    let found = c.in_ok-tag-in-BeginObject in
    rw is (tagged_ends_read c.expiry_tagged.result found.tag.now found.text.now _ _ c.expiry_tagged.ensures found.ensures)
