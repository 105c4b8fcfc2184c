-- What a cost kind is: a start value, joining with one distortion, and a ranking; and the laws that it keeps. Assumes nothing.
use Rattle.std.specs.Prelude.{◌≡◌, ℕ, Bool, true, ◌⊎◌}

pub record Model (V : Type 0) : Type 0 where
  pub start : V
  pub joined : V → ℕ → V
  pub ranks : V → V → Bool

-- a is no dearer than b
abbrev pub NoDearer : {V : Type 0} → Model V → V → V → Type 0
NoDearer m a b = m.ranks a b ≡ true

-- any two values compare, the ranking is transitive, and joining the same distortion keeps it
pub record Ordered {V : Type 0} (m : Model V) : Type 0 where
  pub compare : (a b : V) → NoDearer m a b ⊎ NoDearer m b a
  pub trans : (a b c : V) → NoDearer m a b → NoDearer m b c → NoDearer m a c
  pub joins : (a b : V) (distortion : ℕ) → NoDearer m a b → NoDearer m (m.joined a distortion) (m.joined b distortion)

-- two values rank alike: each is no dearer than the other
abbrev pub Alike : {V : Type 0} → Model V → V → V → Type 0
Alike m a b = NoDearer m a b × NoDearer m b a

-- values that rank alike are the same
abbrev pub AlikeSame : {V : Type 0} → Model V → Type 0
AlikeSame {V} m = (a b : V) → Alike m a b → a ≡ b
