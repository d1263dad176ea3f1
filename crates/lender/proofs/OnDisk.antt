-- The journal goes on replaying to what memory has.
-- Assumes nothing.
use Rattle.std.proofs.Common.{◌≡◌, ℕ, ◌<◌, true, false, List, [], ◌∷◌, ◌++◌, Some, None, Option, sym, refl, ap, ◌∙◌}
use Rattle.message.specs.Format.{Msg, Ask, Loan, Write, In, Void, Recall, Back}
use Rattle.message.specs.Format as format
use Rattle.message.specs.Reading.{read}
use Rattle.message.proofs.Reading.{read_some}
use Rattle.journal.specs.declared.record.Owner.TheVariants.{Keeper as keeper}
use Rattle.journal.specs.Records.{Rec, AllSound, bytes_of, records_of}
use Rattle.journal.specs.Replays.{Through}
use Rattle.journal.proofs.Journals.{front_is_records}
use Rattle.journal.proofs.Grown.{read_all, grown_records, grown_whole}
use Rattle.part.specs.Bytes.{Named}
use Rattle.lender.specs.declared.keeper.Keeper.{Keeper}
use Rattle.lender.specs.declared.answer.AskAnswer.{AskAnswer}
use Rattle.lender.specs.declared.answer.AskAnswer.TheVariants as ask
use Rattle.lender.specs.declared.answer.WriteAnswer.{WriteAnswer}
use Rattle.lender.specs.declared.answer.WriteAnswer.TheVariants as write
use Rattle.lender.specs.Book.{keeper_book, keeper_parts}
use Rattle.lender.specs.Rules.{Book, ask_answer, ask_records, write_answer, write_records}
use Rattle.lender.specs.Replies.{heard_effect}
use Rattle.lender.specs.Replay.{Memory, memory, redo, replay, nothing, Redone}
use Rattle.lender.specs.OnDisk.{Holds}

-- the records of a message may stand in the keeper's journal
ask_sound : (i q n l : ℕ) → Named i q n → l < 4294967296 → (a : AskAnswer) → AllSound keeper (ask_records i q l a)
ask_sound i q n l h s (ask.Granted true) = (((h.0, h.1, s), tt), tt)
ask_sound i q n l h s (ask.Granted false) = tt
ask_sound i q n l h s ask.Quiet = tt
ask_sound i q n l h s (ask.Barred by) = tt
ask_sound i q n l h s ask.Exhausted = tt

write_sound : (i q n : ℕ) (v : List ℕ) → format.WellFormed (Write i q n v) → (a : WriteAnswer) → AllSound keeper (write_records i q n v a)
write_sound i q n v h write.Applied = ((h, tt), tt)
write_sound i q n v h write.Again = tt
write_sound i q n v h write.Void = tt
write_sound i q n v h write.Passed = tt
write_sound i q n v h write.Quiet = tt

heard_sound : (c : ℕ) (m : Msg) → format.WellFormed m → (b : Book) (f : ℕ → List ℕ) → AllSound keeper (heard_effect c (Some m) b f).records
heard_sound c (Ask i q n k l) h b f = ask_sound i q n l h.0 h.1 (ask_answer c i q k l b)
heard_sound c (Loan i q n k v) h b f = tt
heard_sound c (Write i q n v) h b f = write_sound i q n v h (write_answer c i q n b)
heard_sound c (In i q n) h b f = tt
heard_sound c (Void i q n) h b f = tt
heard_sound c (Recall i q) h b f = tt
heard_sound c (Back i q n) h b f = tt

pub all_sound : (c : ℕ) (xs : List ℕ) (b : Book) (f : ℕ → List ℕ) → AllSound keeper (heard_effect c (read xs) b f).records
all_sound c xs b f = go (read xs) refl
  where
    go : (o : Option Msg) → read xs ≡ o → AllSound keeper (heard_effect c o b f).records
    go None e = tt
    go (Some m) e = heard_sound c m (read_some xs m e).0 b f

pub replay_append : (rs ss : List Rec) (s : Memory) → replay (rs ++ ss) s ≡ replay ss (replay rs s)
replay_append [] ss s = refl
replay_append (r ∷ rs) ss s = replay_append rs ss (redo r s)

-- more records are appended, and memory has gone through them
pub holds_more : (s t : Memory) (was is : List ℕ) (rs : List Rec) → Holds s was → AllSound keeper rs → is ≡ was ++ bytes_of rs → t ≡ replay rs s → Holds t is
holds_more s t was is rs h snd e m =
    record {
      whole = grown_whole keeper was is rs h.whole snd e;
      made = m ∙ ap (replay rs) h.made ∙ sym (replay_append (records_of keeper was) rs nothing)
          ∙ ap (λ (q : List Rec). replay q nothing) (sym (grown_records keeper was is rs h.whole snd e));
    }

-- a keeper that went through records
went : (k j : Keeper) (rs : List Rec) → Through Redone k rs j → memory (keeper_book j) (keeper_parts j) ≡ replay rs (memory (keeper_book k) (keeper_parts k))
went k j [] e = ap (λ (x : Keeper). memory (keeper_book x) (keeper_parts x)) (sym e)
went k j (r ∷ rs) (m, p, t) = went m j rs t ∙ ap (replay rs) p.kept

pub went_long : (k j : Keeper) (rs : List Rec) → Through Redone k rs j → (keeper_book j).long ≡ (keeper_book k).long
went_long k j [] e = ap (λ (x : Keeper). (keeper_book x).long) (sym e)
went_long k j (r ∷ rs) (m, p, t) = went_long m j rs t ∙ p.long

-- what a journal makes of a keeper that nothing was written to
pub holds_opened : (k j : Keeper) (was is : List ℕ) → memory (keeper_book k) (keeper_parts k) ≡ nothing → is ≡ bytes_of (records_of keeper was) → Through Redone k (records_of keeper was) j
    → Holds (memory (keeper_book j) (keeper_parts j)) is
holds_opened k j was is z e t =
    let R = records_of keeper was in
    let all : records_of keeper is ≡ R = ap (records_of keeper) e ∙ read_all keeper R (front_is_records keeper was).0 in
    record {
      whole = ap bytes_of all ∙ sym e;
      made = went k j R t ∙ ap (replay R) z ∙ ap (λ (q : List Rec). replay q nothing) (sym all);
    }
