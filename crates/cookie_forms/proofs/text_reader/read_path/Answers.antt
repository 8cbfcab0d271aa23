use Rattle.std.proofs.Common.{◌≡◌, ◌∷◌, arith}
use Rattle.json.specs.Token.{Token}
use Rattle.cookie_forms.proofs.ReadTokens.{path_read}
use Rattle.cookie_forms.proofs.text_reader.read_path.Goals as goal

pub returns : goal.returns
returns c =
    let opened : c.args.reader.now ≡ Token.begin_array ∷ c.next_token.new.reader = grind arith in
    let path : c.next_token.new.reader ≡ Token.string c.in-String.path.now ∷ c.next_token-2.new.reader = grind arith in
    let flag : c.next_token-2.new.reader ≡ Token.boolean c.in-Bool.from_attr ∷ c.next_token-3.new.reader = grind arith in
    let closed : c.next_token-3.new.reader ≡ Token.end_array ∷ c.next_token-4.new.reader = grind arith in
    λ depth some. rw (opened, path, flag, closed) (path_read depth c.in-String.path.now c.in-Bool.from_attr c.next_token-4.new.reader some)
