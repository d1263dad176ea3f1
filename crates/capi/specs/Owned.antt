-- What a pointer owns that may stand for a box.
-- Assumes nothing.
use mir.Syntax.{Ty}
use base.Fml.{Fml, ftrue}
use denote.RattleType.{RattleType}
use denote.RawPtr.{Ptr}
use Rattle.std.specs.Prelude.{Option, Some, None}
use Rattle.std.specs.Box.Ownership.{box_owns}

-- what a box owns, or nothing, where there is none
abbrev pub owns_if_any : (Ty → Ptr → Fml) → (R : RattleType) → Ptr → Option R.Denot → Fml
owns_if_any holds R p None = ftrue
owns_if_any holds R p (Some x) = box_owns holds R p x
