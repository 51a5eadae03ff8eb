-- A record read into rows of structs and written again from them: laws of what `spec_contracts` says of it.
use Rattle.std.specs.Prelude.{ℕ, Bool, List, ◌≡◌}
use Rattle.std.proofs.Common.{subst}
use Rattle.spec_format.specs.Rooms.{Rooms, rooms_in}
use Rattle.spec_format.specs.declared.Head.{Head}
use Rattle.spec_format.specs.declared.How.{How}
use Rattle.spec_format.specs.declared.ReadAnswer.{ReadAnswer}
use Rattle.spec_format.specs.declared.ReadAnswer.TheVariants as read
use Rattle.spec_format.specs.declared.Sizes.{Sizes}
use Rattle.spec_format.specs.declared.Unread.{Unread}
use Rattle.spec_format.specs.declared.WriteAnswer.{WriteAnswer}
use Rattle.base_rows.specs.declared.Feature.{Feature}
use Rattle.base_rows.specs.Rows.{flat}
use Rattle.spec_contracts.specs.Equal.{rooms_after_lem}
use Rattle.spec_contracts.specs.declared.Reported.{Reported}
use Rattle.spec_contracts.specs.Reads.{Answered, ReadReported}
use Rattle.spec_contracts.specs.Rounds.{empty_head, head_of, not_at_all, how_after, Rounds}
use Rattle.spec_contracts.specs.Writes.{WriteAnswered}

pub head_done : (a : ReadAnswer) (h : Head) (place : ℕ) → a ≡ read.Done h place → h ≡ head_of a
head_done a h place e = rw e

pub head_refused : (a : ReadAnswer) (why : Unread) (h : Head) → a ≡ read.Refused why → h ≡ empty_head → h ≡ head_of a
head_refused a why h e k = rw e k

pub head_room : (a : ReadAnswer) (sizes : Sizes) (h : Head) → a ≡ read.Room sizes → h ≡ empty_head → h ≡ head_of a
head_room a sizes h e k = rw e k

pub how_refused : (a : ReadAnswer) (why : Unread) (how : How) → a ≡ read.Refused why → not_at_all how ≡ how_after a how
how_refused a why how e = rw e

pub how_room : (a : ReadAnswer) (sizes : Sizes) (how : How) → a ≡ read.Room sizes → not_at_all how ≡ how_after a how
how_room a sizes how e = rw e

module _ (strict : Bool) (s : List ℕ) (at : ℕ) (old : Rooms) (how : How) (t rf cm : List ℕ) (rows : List Feature) (q n l before after : List ℕ) (r : Reported) (w : WriteAnswer) where
  -- the reader's contract and then the writer's
  pub rounds : ReadReported strict s at old (rooms_in t rf cm (flat rows) q n l) r → WriteAnswered (how_after r.answer how) (rooms_in t rf cm (flat rows) q n l) (head_of r.answer) before after w
      → Rounds strict s at old how t rf cm q n l before after r w
  rounds x b =
      let a : Answered strict s at old (rooms_in t rf cm (flat rows) q n l) r.answer = x.answered in
      record {
        is = a.is;
        told = x.told;
        texts_are = a.texts;
        references_are = a.references;
        comments_are = a.comments;
        qualifiers_are = a.qualifiers;
        locations_are = a.locations;
        letters_are = a.letters;
        wrote =
            subst (λ (rooms : Rooms). WriteAnswered (how_after r.answer how) rooms (head_of r.answer) before after w)
            (rooms_after_lem strict s at old (rooms_in t rf cm (flat rows) q n l) r.answer a) b;
      }
