-- Combining the effects of successive writes.
use Rattle.std.proofs.Common.{ℕ, List, [], ◌++◌, Option, refl, sym, ap, ◌∙◌, append_assoc, append-nil}
use Rattle.std.specs.Io.KnownBytes.{Appends}
use Rattle.std.proofs.KnownBytes.{Appends-trans, Appends-nil}
use Rattle.cookie_device.specs.Device.{AppendsPrefix, Sends}

-- nothing was written
pub nothing_sent : (a : Option (List ℕ)) (text : List ℕ) → Sends a a text text
nothing_sent a text = record { sent = []; split = refl; appended = Appends-nil a }

-- everything was written
pub all_sent : (a b : Option (List ℕ)) (text : List ℕ) → Appends a b text → Sends a b text []
all_sent a b text whole = record { sent = text; split = sym (append-nil text); appended = whole }

-- one string was written, and then all of the next but the rest
pub sent_after : (a b c : Option (List ℕ)) (text more rest : List ℕ) → Appends a b text → Sends b c more rest → Sends a c (text ++ more) rest
sent_after a b c text more rest whole next = record {
  sent = text ++ next.sent;
  split = ap (λ xs. text ++ xs) next.split ∙ sym (append_assoc text next.sent rest);
  appended = Appends-trans a b c text next.sent whole next.appended;
}

-- a prefix of a string is a prefix of a longer one
pub longer_beginning : (a b : Option (List ℕ)) (text more : List ℕ) → AppendsPrefix a b text → AppendsPrefix a b (text ++ more)
longer_beginning a b text more part = record {
  rest = part.rest ++ more;
  sends = record {
    sent = part.sends.sent;
    split = ap (λ xs. xs ++ more) part.sends.split ∙ append_assoc part.sends.sent part.rest more;
    appended = part.sends.appended;
  };
}

-- one string was written, and then a prefix of the next
pub beginning_after : (a b c : Option (List ℕ)) (text more : List ℕ) → Appends a b text → AppendsPrefix b c more → AppendsPrefix a c (text ++ more)
beginning_after a b c text more whole next =
    record { rest = next.rest; sends = sent_after a b c text more next.rest whole next.sends }

-- what was written is a prefix
pub sent_beginning : (a b : Option (List ℕ)) (text rest : List ℕ) → Sends a b text rest → AppendsPrefix a b text
sent_beginning a b text rest sends = record { rest = rest; sends = sends }
