-- Inputs that begin with a grammar rule: sequences of rules, and what the parsers read of them.
use Rattle.std.proofs.Common.{◌≡◌, ℕ, ◌<◌, ◌≤◌, length, length-append, arith, List, ◌++◌, Option, Some, None, option_and_then, refl, sym, ap, ◌∙◌}
use Rattle.std.proofs.lemmas.List.{append_assoc}
use Rattle.cookie_ron.specs.Grammar.{◌▸◌}
use Rattle.cookie_ron.specs.RonInput.{either}

-- the input is of the rule, followed by the rest
pub record Front (P : List ℕ → Type 0) (s rest : List ℕ) : Type 0 where
  pub front : List ℕ
  pub is : s ≡ front ++ rest
  pub holds : P front

-- the parser reads every input of the rule, whatever follows it
pub record Takes {A : Type 0} (P : List ℕ → Type 0) (f : List ℕ → Option A) (k : List ℕ → A) : Type 0 where
  pub at : (front rest : List ℕ) → P front → f (front ++ rest) ≡ Some (k rest)

-- the parser fails on every input of the rule, whatever follows it
pub record Misses {A : Type 0} (P : List ℕ → Type 0) (f : List ℕ → Option A) : Type 0 where
  pub at : (front rest : List ℕ) → P front → f (front ++ rest) ≡ None

-- a sequence of two rules
pub joined : {P Q : List ℕ → Type 0} {s r t : List ℕ} → Front P s r → Front Q r t → Front (P ▸ Q) s t
joined {P} {Q} {s} {r} {t} a b = record {
  front = a.front ++ b.front;
  is = a.is ∙ ap (λ x. a.front ++ x) b.is ∙ sym (append_assoc a.front b.front t);
  holds = (a.front, b.front, refl, a.holds, b.holds);
}

pub front_of : {P Q : List ℕ → Type 0} {s r : List ℕ} → ((x : List ℕ) → P x → Q x) → Front P s r → Front Q s r
front_of h a = record { front = a.front; is = a.is; holds = h a.front a.holds }

-- the rest after something that is not empty is shorter
pub front_shorter : {P : List ℕ → Type 0} {s r : List ℕ} (a : Front P s r) → 0 < length a.front → length r < length s
front_shorter {r = r} a h = omega (arith, ap length a.is, length-append a.front r)

-- the rest is never longer
pub front_no_longer : {P : List ℕ → Type 0} {s r : List ℕ} (a : Front P s r) → length r ≤ length s
front_no_longer {r = r} a = omega (arith, ap length a.is, length-append a.front r)

pub front_here : {P : List ℕ → Type 0} {s t : List ℕ} (front rest : List ℕ) → s ≡ front ++ rest → rest ≡ t → P front → Front P s t
front_here front rest e r h = record { front = front; is = e ∙ ap (λ x. front ++ x) r; holds = h }

-- an input of two rules, followed by the rest
split : (x y front rest : List ℕ) → front ≡ x ++ y → front ++ rest ≡ x ++ (y ++ rest)
split x y front rest e = ap (λ s. s ++ rest) e ∙ append_assoc x y rest

pub chain : {A B : Type 0} {P Q : List ℕ → Type 0} {f : List ℕ → Option A} {k : List ℕ → A} {m : List ℕ → B} (g : A → Option B)
    → Takes P f k → Takes Q (λ r. g (k r)) m → Takes (P ▸ Q) (λ s. option_and_then g (f s)) m
chain {f = f} g a b = record {
  at = λ front rest (x, y, e, p, q).
      ap (λ s. option_and_then g (f s)) (split x y front rest e) ∙ ap (option_and_then g) (a.at x (y ++ rest) p) ∙ b.at y rest q;
}

-- the last rule of a sequence
pub last : {A B : Type 0} {P : List ℕ → Type 0} {f : List ℕ → Option A} {k : List ℕ → A} {m : List ℕ → B} (g : A → Option B)
    → Takes P f k → ((r : List ℕ) → g (k r) ≡ Some (m r)) → Takes P (λ s. option_and_then g (f s)) m
last g a b = record { at = λ front rest p. ap (option_and_then g) (a.at front rest p) ∙ b rest }

-- a choice by a token that is there
pub here : {A : Type 0} {P Q : List ℕ → Type 0} {f : List ℕ → Option (List ℕ)} {m : List ℕ → A} (h g : List ℕ → Option A)
    → Takes P f (λ r. r) → Takes Q h m → Takes (P ▸ Q) (λ s. either (f s) h (g s)) m
here {f = f} h g a b = record {
  at = λ front rest (x, y, e, p, q).
      ap (λ s. either (f s) h (g s)) (split x y front rest e)
      ∙ ap (λ o. either o h (g (x ++ (y ++ rest)))) (a.at x (y ++ rest) p) ∙ b.at y rest q;
}

-- the same if nothing follows the token
pub here_alone : {A : Type 0} {P : List ℕ → Type 0} {f : List ℕ → Option (List ℕ)} {m : List ℕ → A} (h g : List ℕ → Option A)
    → Takes P f (λ r. r) → ((r : List ℕ) → h r ≡ Some (m r)) → Takes P (λ s. either (f s) h (g s)) m
here_alone h g a b = record {
  at = λ front rest p. ap (λ o. either o h (g (front ++ rest))) (a.at front rest p) ∙ b rest;
}

-- a choice by a token that is not there
pub there : {A : Type 0} {P : List ℕ → Type 0} {f : List ℕ → Option (List ℕ)} {m : List ℕ → A} (h g : List ℕ → Option A)
    → Misses P f → Takes P g m → Takes P (λ s. either (f s) h (g s)) m
there h g a b = record {
  at = λ front rest p. ap (λ o. either o h (g (front ++ rest))) (a.at front rest p) ∙ b.at front rest p;
}

-- a parser that fails on the first rule fails on the sequence
pub missed : {A : Type 0} {P Q : List ℕ → Type 0} {f : List ℕ → Option A} → Misses P f → Misses (P ▸ Q) f
missed {f = f} a = record {
  at = λ front rest (x, y, e, p, q). ap f (split x y front rest e) ∙ a.at x (y ++ rest) p;
}

-- a sequence of three rules, grouped
pub grouped : {P Q R : List ℕ → Type 0} (s : List ℕ) → (P ▸ Q ▸ R) s → ((P ▸ Q) ▸ R) s
grouped s (x, y, e, p, (x', y', e', q, r)) = (x ++ x', y', e ∙ ap (λ t. x ++ t) e' ∙ sym (append_assoc x x' y'), (x, x', refl, p, q), r)

pub spread : {P Q R : List ℕ → Type 0} (s : List ℕ) → ((P ▸ Q) ▸ R) s → (P ▸ Q ▸ R) s
spread s (x, y, e, (x', y', e', p, q), r) =
    (x', y' ++ y, e ∙ ap (λ t. t ++ y) e' ∙ append_assoc x' y' y, p, (y', y, refl, q, r))

-- a rule that implies another
pub takes_of : {A : Type 0} {P Q : List ℕ → Type 0} {f : List ℕ → Option A} {k : List ℕ → A} → ((s : List ℕ) → Q s → P s) → Takes P f k → Takes Q f k
takes_of h a = record { at = λ front rest q. a.at front rest (h front q) }
