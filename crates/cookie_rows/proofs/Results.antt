-- What an unknown result implies.
use Rattle.std.proofs.Common.{◌≡◌, IfNone, IfOk, IsOk, Option, None, Some, Result, Ok, Err, OnOk, OnErr}
use Rattle.std.specs.Option.{OnSome}

-- what follows from what holds after success
pub on_ok_map : {T E P Q : Type 0} (r : Result T E) → (P → Q) → OnOk r P → OnOk r Q
on_ok_map (Ok x) f h = f h
on_ok_map (Err e) f h = tt

-- what holds after a success that is known
pub known_ok : {T E P : Type 0} (r : Result T E) → IsOk r → OnOk r P → P
known_ok (Ok x) ok h = h
known_ok (Err e) ok h = absurd (cc)

-- of a value
pub if_ok_map : {T E : Type 0} {P Q : T → Type 0} (r : Result T E) → ((x : T) → P x → Q x) → IfOk r P → IfOk r Q
if_ok_map (Ok x) f h = f x h
if_ok_map (Err e) f h = tt

-- and after an error
pub on_err_map : {T E P Q : Type 0} (r : Result T E) → (P → Q) → OnErr r P → OnErr r Q
on_err_map (Ok x) f h = tt
on_err_map (Err e) f h = f h

-- what holds in any case holds after an error
pub either_way : {T E P : Type 0} (r : Result T E) → P → OnErr r P
either_way (Ok x) p = tt
either_way (Err e) p = p

-- what follows from both
pub ok_or_err : {T E P Q R : Type 0} (r : Result T E) → OnOk r P → OnErr r Q → (P → R) → (Q → R) → R
ok_or_err (Ok x) p q f g = f p
ok_or_err (Err e) p q f g = g q

-- what follows from a value and from none
pub some_or_none : {T P Q R : Type 0} (o : Option T) → OnSome o P → IfNone o Q → (P → R) → (Q → R) → R
some_or_none None p q f g = g q
some_or_none (Some x) p q f g = f p

-- what holds at a value that is there
pub known_some : {T P : Type 0} (o : Option T) {x : T} → o ≡ Some x → OnSome o P → P
known_some None is h = absurd (cc)
known_some (Some y) is h = h
