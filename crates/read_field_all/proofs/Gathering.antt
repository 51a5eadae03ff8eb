-- The header's loop, one field at a time. Assumes nothing.
use Prim.Native.Nat.{ℕ, ◌-◌, ◌≤◌, ◌<◌, ◌^◌}
use mathlib.Core.Path.{◌≡◌, refl, sym, ap, ◌∙◌, subst}
use mathlib.Core.List.{List, [], ◌∷◌, ◌++◌, append_assoc, append-nil}
use native.Mathlib.Omega.{arith}
use lib.ListN.{length, drop}
use Rattle.spec_format.specs.Readers.{Ans, got, no, cut, bind, mapped, end, try_turn, while_fits}
use Rattle.spec_format.specs.Header as format
use Rattle.spec_format.specs.Header.{header_field, latest, every}
use Rattle.spec_format.specs.Rooms.{texts_of}
use Rattle.spec_loops.specs.Loops.{tries_no, tries_cut}
use Rattle.spec_loops.proofs.Loops.{tries_more}
use Rattle.spec_loops.proofs.Shrinks.{header_small}
use Rattle.read_field_any.specs.declared.Field.{Field}
use Rattle.read_field_any.specs.declared.FieldAt.{FieldAt}
use Rattle.read_field_any.specs.declared.FieldAt.TheVariants as read
use Rattle.read_field_any.specs.Fields.{FieldKnown, FieldAs, FieldRead}
use Rattle.read_field_all.specs.declared.Header.{Header}
use Rattle.read_field_all.specs.Notes.{unseen, noting, Fitting}
use Rattle.read_field_all.specs.Gathered.{fields_at, Gathers, Gathered}
use Rattle.read_field_all.proofs.Noting.{notes_fit, notes_more}
use Rattle.spec_format.specs.Impossible.{impossible}

-- the header's fields are those that were read so far, and those that are read from here on
pub record Gathering (s : List ℕ) (at : ℕ) (h : Header) : Type 0 where
  pub seen : List format.Field
  pub gathers : Gathers (while_fits header_field (drop at s) ≡ mapped (λ l. seen ++ l) (while_fits header_field (drop h.next s))) s at seen h

mapped_none : (o : Ans (List format.Field)) → o ≡ mapped (λ l. [] ++ l) o
mapped_none (got t r) = refl
mapped_none no = refl
mapped_none cut = refl

mapped_one : (o : Ans (List format.Field)) (x : format.Field) (pre : List format.Field) → mapped (λ l. pre ++ l) (mapped (λ l. x ∷ l) o) ≡ mapped (λ l. (pre ++ x ∷ []) ++ l) o
mapped_one (got t r) x pre = ap (λ (l : List format.Field). got l r) (sym (append_assoc pre (x ∷ []) t))
mapped_one no x pre = refl
mapped_one cut x pre = refl

pub gathering_start : (s : List ℕ) (at : ℕ) (h : Header) → at ≤ length s → h ≡ unseen at → Gathering s at h
unfolding latest every texts_of
gathering_start s at h l e =
    rw e (record {
      seen = [];
      gathers = record {
        ended = mapped_none (while_fits header_field (drop at s));
        definition = tt;
        accession = tt;
        version = tt;
        dblink = tt;
        keywords = tt;
        source = tt;
        twice = refl;
        references = refl;
        reference_bytes = refl;
        comments = refl;
        comment_bytes = refl;
        from = omega arith;
        within = l;
        small = omega arith;
        few = omega arith;
      };
    })

-- what was gathered is the whole where no field follows
ended_members : (xs z : List ℕ) (fs : List format.Field) → while_fits header_field xs ≡ got fs z → fs ≡ fields_at xs
ended_members xs z fs e = go (end (try_turn header_field) xs) e
  where
    go : (o : Ans Unit) → bind o (λ _ r. got (fields_at xs) r) ≡ got fs z → fs ≡ fields_at xs
    go (got u r) e = cc
    go no e = impossible cc
    go cut e = impossible cc

module _ (s : List ℕ) (at : ℕ) (h : Header) (g : Gathering s at h) where
  gathered : while_fits header_field (drop h.next s) ≡ got [] (drop h.next s) → Gathered s at (fields_at (drop at s)) h
  gathered e =
      let w = g.gathers in
      let o : while_fits header_field (drop at s) ≡ got g.seen (drop h.next s) = w.ended ∙ rw e (ap (λ (l : List format.Field). got l (drop h.next s)) (append-nil g.seen)) in
      subst (λ (l : List format.Field). Gathered s at l h) (ended_members (drop at s) (drop h.next s) g.seen o) (record {
        ended = o;
        definition = w.definition;
        accession = w.accession;
        version = w.version;
        dblink = w.dblink;
        keywords = w.keywords;
        source = w.source;
        twice = w.twice;
        references = w.references;
        reference_bytes = w.reference_bytes;
        comments = w.comments;
        comment_bytes = w.comment_bytes;
        from = w.from;
        within = w.within;
        small = w.small;
        few = w.few;
      })

  module _ (r : FieldAt) (k : FieldRead s h.next (header_field (drop h.next s)) r) where
    pub gathering_no : r ≡ read.No → Gathered s at (fields_at (drop at s)) h
    gathering_no e = gathered (tries_no header_field (drop h.next s) (subst (λ (x : FieldAt). FieldAs s h.next (header_field (drop h.next s)) x) e k.is))

    pub gathering_cut : r ≡ read.Cut → Gathered s at (fields_at (drop at s)) h
    gathering_cut e = gathered (tries_cut header_field (drop h.next s) (subst (λ (x : FieldAt). FieldAs s h.next (header_field (drop h.next s)) x) e k.is))

    module _ (f : Field) (next : ℕ) (e : r ≡ read.Got f next) where
      pub field_known : FieldKnown s h.next (header_field (drop h.next s)) f next
      field_known = subst (λ (x : FieldAt). FieldAs s h.next (header_field (drop h.next s)) x) e k.is

      pub gathering_fits : length s < 2 ^ 64 → Fitting h f
      gathering_fits l = let w = field_known in notes_fit _ s at g.seen h g.gathers w.the next f w.one w.ahead (omega (arith, w.within))

      pub gathering_more : (h' : Header) → h' ≡ noting h f next → Gathering s at h'
      unfolding noting
      gathering_more h' q =
          let w = field_known in
          rw q (record {
            seen = g.seen ++ w.the ∷ [];
            gathers =
                notes_more _ s at g.seen h g.gathers w.the next f w.one w.ahead _
                (g.gathers.ended ∙ ap (mapped (λ l. g.seen ++ l)) (tries_more header_field header_small (drop h.next s) w.the (drop next s) w.is) ∙
                mapped_one (while_fits header_field (drop next s)) w.the g.seen) w.within;
          })

      pub gathering_less : (h' : Header) → h' ≡ noting h f next → length s - h'.next < length s - h.next
      unfolding noting
      gathering_less h' q = let w = field_known in rw q (omega (arith, w.ahead, w.within))
