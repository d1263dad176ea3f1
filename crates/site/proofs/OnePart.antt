-- What the records of a keeper's journal leave of one part is what replay makes of it.
-- Assumes nothing.
use Rattle.std.proofs.Common.{◌≡◌, ℕ, List, [], ◌∷◌, refl, sym, ap, ◌∙◌}
use Rattle.journal.specs.Records.{Rec, Applied, VoidUpTo, Numbers}
use Rattle.journal.specs.Replays.{Through}
use Rattle.lender.specs.Replay.{Memory, redo, replay}
use Rattle.site.specs.declared.written.Written.{Written}
use Rattle.site.specs.OnePart.{rewritten, Rewritten}

same : (q : ℕ) (r : Rec) (m : Memory) → rewritten q r (m.parts q) ≡ (redo r m).parts q
same q (Applied i p n v) m = refl
same q (VoidUpTo i p n) m = refl
same q (Numbers p a w) m = refl

pub went : (rs : List Rec) (s t : Written) (m : Memory) → s.bytes ≡ m.parts s.place.at → Through Rewritten s rs t → t.bytes ≡ (replay rs m).parts s.place.at
went [] s t m e h = rw (sym h) e
went (r ∷ rs) s t m e (x, w, h) =
    went rs x t (redo r m) (w.bytes ∙ ap (rewritten s.place.at r) e ∙ same s.place.at r m ∙ ap (redo r m).parts (sym w.place)) h
    ∙ ap (replay (r ∷ rs) m).parts w.place
