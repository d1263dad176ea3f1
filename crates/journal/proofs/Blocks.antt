-- What a block holds, and what reading a file in memory gives.
-- Assumes nothing.
use Rattle.std.proofs.Common.{◌≡◌, ℕ, [], Some, ◌+◌, ◌-◌, ◌≤◌, List, ◌++◌, length, take, drop, zero-add, sym, ap, ◌∙◌, arith}
use Rattle.std.proofs.Math.Seq.{take-add, paste}
use Rattle.std.proofs.lemmas.List.{length-take, length-drop, drop-take, take_at, take_all}
use Rattle.std.proofs.lemmas.List.Edits.{take-paste}
use Rattle.std.specs.List.{copy_within}
use Rattle.journal.specs.declared.source.memory.MemorySource.{MemorySource}
use Rattle.journal.specs.Memory.{read_of}

-- what is held behind the bytes that are let go of comes to the front
pub passed : (bs cs : List ℕ) (held size : ℕ) → cs ≡ copy_within bs size held 0 → held ≤ length bs → size ≤ length (take held bs)
    → take (held - size) cs ≡ drop size (take held bs)
passed bs cs held size e l h =
    let n : ℕ = held - size in
    let k : size + n ≡ held = omega (arith, length-take held bs) in
    ap (take n) e ∙ ap (λ (m : ℕ). take m (paste bs 0 (drop size bs) n)) (sym (zero-add n)) ∙ take-paste bs 0 (drop size bs) n (omega arith) (omega (arith, length-drop size bs, length-take held bs)) ∙ sym (drop-take size n bs)
    ∙ ap (λ (m : ℕ). drop size (take m bs)) k

-- so many bytes come from where reading stopped
pub came : (bs block got : List ℕ) (at n : ℕ) → got ≡ take n (drop at bs) → n ≤ length (drop at bs) → n ≤ length block
    → take (at + n) bs ≡ take at bs ++ take n (got ++ drop n block)
came bs block got at n e l h =
    let k : length got ≡ n = ap length e ∙ length-take n (drop at bs) ∙ omega arith in
    take-add at n bs ∙ ap (λ (q : List ℕ). take at bs ++ q) (sym e ∙ sym (take_at got (drop n block) n k))

-- a file in memory that was read from its beginning to its end: all that it has was read
pub all_read : (from done : MemorySource) (file bs : List ℕ) → (from.bytes.now ≡ file) × (from.at ≡ 0) → Some done.bytes.now ≡ Some from.bytes.now
    → done.at ≡ length done.bytes.now → read_of done ≡ read_of from ++ bs → bs ≡ file
all_read from done file bs (f, z) w e r =
    let same : done.bytes.now ≡ from.bytes.now = cc in
    let none : read_of from ≡ [] = ap (λ (n : ℕ). take n from.bytes.now) z in
    let all : read_of done ≡ done.bytes.now = take_all done.at done.bytes.now (omega (arith, e)) in
    sym (ap (λ (q : List ℕ). q ++ bs) none) ∙ sym r ∙ all ∙ same ∙ f
