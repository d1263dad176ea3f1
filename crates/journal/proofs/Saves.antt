-- What is on disk after each call on a store.
-- Assumes nothing.
use Rattle.std.proofs.Common.{◌≡◌, ℕ, min, List, [], ◌∷◌, ◌++◌, length, take, Ok, Err, Result, OnOk, append-nil, refl, sym, ap, ◌∙◌, inl, inr, arith}
use Rattle.std.proofs.lemmas.List.{take_all, take-take, length-take}
use Rattle.std.proofs.lemmas.Bool.{cases_lt}
use Rattle.journal.specs.Records.{Rec, layout}
use Rattle.journal.specs.Logs.{Appended, Logged}
use Rattle.journal.specs.Stores.{Disk, Grown, Saved, Committed}

-- appended first, then synced
pub grown_synced : {T E : Type 0} (a b c : Disk) (more : List ℕ) (r : Result T E) → (b.appended ≡ a.appended ++ more) × (b.synced ≡ a.synced) → Saved b c r
    → Committed a more c r
grown_synced a b c more (Ok x) (e, f) (g, h) = (g ∙ e, h ∙ sym g)
grown_synced a b c more (Err x) (e, f) (g, h) =
    (length more, g ∙ e ∙ ap (λ (q : List ℕ). a.appended ++ q) (sym (take_all (length more) more (omega arith))), h ∙ f)

-- the first bytes of a file that was cut
pub take_less : (s n : ℕ) (xs : List ℕ) → take (min s n) (take n xs) ≡ take n (take s xs)
take_less s n xs =
    elim (cases_lt s n) [
      | inl l ↦ let e : min s n ≡ s = omega arith in
          ap (λ (k : ℕ). take k (take n xs)) e ∙ take-take s n xs (omega arith) ∙ sym (take_all n (take s xs) (omega (arith, length-take s xs)))
      | inr l ↦ let e : min s n ≡ n = omega arith in
          ap (λ (k : ℕ). take k (take n xs)) e ∙ take-take n n xs (omega arith) ∙ sym (take-take n s xs l)
    ]

-- a record that was committed is logged
pub logged_by : {T E : Type 0} (was is : Disk) (r : Rec) (res : Result T E) → Committed was (layout r) is res → OnOk res (Logged (r ∷ []) was is)
logged_by was is r (Ok x) (g, s) = record { grown = g ∙ ap (λ (q : List ℕ). was.appended ++ q) (sym (append-nil (layout r))); synced = λ _. s }
logged_by was is r (Err x) h = tt

-- a record that was appended
pub appended_by : {T E : Type 0} (was is : Disk) (r : Rec) (res : Result T E) → Grown was (layout r) is res → OnOk res (Appended (r ∷ []) was is)
appended_by was is r (Ok x) (g, s) = record { grown = g ∙ ap (λ (q : List ℕ). was.appended ++ q) (sym (append-nil (layout r))); synced = s }
appended_by was is r (Err x) h = tt

-- without one nothing is
pub none_appended : (d : Disk) → Appended [] d d
none_appended d = record { grown = sym (append-nil d.appended); synced = refl }

-- what was appended and then synced is logged
pub synced_logged : {T E : Type 0} (rs : List Rec) (was mid is : Disk) (res : Result T E) → Appended rs was mid → Saved mid is res → OnOk res (Logged rs was is)
synced_logged rs was mid is (Ok x) a (g, s) = record { grown = g ∙ a.grown; synced = λ _. s ∙ sym g }
synced_logged rs was mid is (Err x) a h = tt

-- without a record nothing is
pub none_logged : (d : Disk) → Logged [] d d
none_logged d = record { grown = sym (append-nil d.appended); synced = λ e. e }
