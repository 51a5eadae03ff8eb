-- What is read is what a proper tree prints.
use Prim.Native.Nat.{ℕ, zero, suc, ◌+◌, ◌-◌, ◌≤◌}
use Rattle.std.specs.Prelude.{Bool, true, false, ◌≡◌, eqb, leb}
use Rattle.std.proofs.Math.Path.{refl, ap, sym}
use Rattle.std.proofs.Common.{◌∙◌, leb-true, le-leb}
use mathlib.Core.List.{List, [], ◌∷◌, ◌++◌, append_assoc}
use native.Mathlib.Omega.{arith}
use Rattle.std.proofs.Math.ListN.{length, length-append}
use Rattle.spec_format.specs.Bytes.{pick, May, absent, is, bytes, some, starts, digit, but, number, decimal}
use Rattle.spec_format.specs.Table.{LocationRow}
use Rattle.spec_format.specs.Location.{Found, found, fault, deep, and_then, run, past, behind, base_fine, base_number, leaf_row, range_end, range_from, between_or, after_first, after_less, bases_from, bases}
use Rattle.spec_format.specs.Location.{in_accession, version_colon, accession, leaf_from, leaf, in_gap, gap_row, gap_end, gap_or, plain, Begin, word, other, begin}
use Rattle.spec_format.specs.Location.{closed_by, closed, ahead, comma_in, members_in, single, location_from, location}
use Rattle.spec_format.specs.Impossible.{impossible}
use Rattle.spec_location.specs.Tests.{and_left, and_right}
use Rattle.spec_location.specs.Bytes.{run_past, run_all, behind_is, comma_is, members_more, members_last}
use Rattle.spec_location.specs.Decimals.{written_back, written_least}
use Rattle.spec_location.specs.Grammar.{Bases, base, range, between, Accession, Tree, leaf as leafTree, gap, complement, join, order, Trees, last, before, bases_text, accession_text, printed, printed_all}
use Rattle.spec_location.specs.Grammar.{bases_row, closing, rows_at, rows_at_all, number_fine, bases_fine, accession_fine, proper, proper_all, nested, nested_all}
use Rattle.spec_location.specs.Parsed.{Parsed}

-- the two steps of what was read in two
record Then {A B : Type 0} (o : Found A) (k : A → List ℕ → Found B) (x : B) (z : List ℕ) : Type 0 where
  a : A
  r : List ℕ
  first : o ≡ found a r
  next : k a r ≡ found x z

then_is : {A B : Type 0} (o : Found A) (k : A → List ℕ → Found B) (x : B) (z : List ℕ) → and_then o k ≡ found x z → Then o k x z
then_is (found a r) k x z h = record { a = a; r = r; first = refl; next = h }
then_is fault k x z h = impossible cc
then_is deep k x z h = impossible cc

-- ---- numbers

record NumberIs (s : List ℕ) (n : ℕ) (z : List ℕ) : Type 0 where
  is : s ≡ decimal n ++ z
  fine : number_fine n ≡ true

number_is : (s : List ℕ) (n : ℕ) (z : List ℕ) → base_number s ≡ found n z → NumberIs s n z
unfolding base_number
number_is s n z h = go (base_fine (run digit s)) refl
  where
    go : (x : Bool) → base_fine (run digit s) ≡ x → NumberIs s n z
    go true e =
        let ds : List ℕ = run digit s in
        let k : found (number 0 ds) (past digit s) ≡ found n z = rw e at h in
        let u : number 0 ds ≡ n = cc in
        let v : past digit s ≡ z = cc in
        let f : starts (but 48) ds ≡ true = and_left (starts (but 48) ds) _ e in
        let g : leb (number 0 ds) 4294967295 ≡ true = and_right (starts (but 48) ds) _ e in
        let w : decimal (number 0 ds) ≡ ds = written_back ds (run_all digit s) f (leb-true (number 0 ds) 4294967295 g) in
        let l : leb 1 (number 0 ds) ≡ true = le-leb 1 (number 0 ds) (written_least ds (run_all digit s) f) in
        rw (← u, ← v) (record { is = run_past digit s ∙ ap (λ (t : List ℕ). t ++ past digit s) (sym w); fine = cc })
    go false e = impossible (cc (rw e at h))

-- ---- bases

-- a second number with its mark
record ToIs (row : ℕ → ℕ → ℕ → ℕ → LocationRow) (marks n : ℕ) (s : List ℕ) (x : LocationRow) (z : List ℕ) : Type 0 where
  mark : Bool
  m : ℕ
  is : s ≡ pick mark (bytes ">") [] ++ (decimal m ++ z)
  fine : number_fine m ≡ true
  row_is : x ≡ row 2 (marks + pick mark 2 0) n m

record BasesIs (row : ℕ → ℕ → ℕ → ℕ → LocationRow) (s : List ℕ) (x : LocationRow) (z : List ℕ) : Type 0 where
  the : Bases
  is : s ≡ bases_text the ++ z
  fine : bases_fine the ≡ true
  row_is : x ≡ bases_row row the

module _ (row : ℕ → ℕ → ℕ → ℕ → LocationRow) (x : LocationRow) (z : List ℕ) where
  to_is : (marks n : ℕ) (s : List ℕ) → range_from row marks n s ≡ found x z → ToIs row marks n s x z
  to_is marks n s h = go (behind (bytes ">") s) refl h
    where
      go : (o : May (List ℕ)) → behind (bytes ">") s ≡ o → range_end row marks n o s ≡ found x z → ToIs row marks n s x z
      go (is r) e f =
          let t = then_is (base_number r) (λ m z. found (row 2 (marks + 2) n m) z) x z f in
          let k : NumberIs r t.a t.r = number_is r t.a t.r t.first in
          let v : t.r ≡ z = cc t.next in
          record {
            mark = true;
            m = t.a;
            is = behind_is (bytes ">") s r e ∙ ap (λ (y : List ℕ). 62 ∷ y) (k.is ∙ ap (λ (y : List ℕ). decimal t.a ++ y) v);
            fine = k.fine;
            row_is = cc t.next;
          }
      go absent e f =
          let t = then_is (base_number s) (λ m z. found (row 2 marks n m) z) x z f in
          let k : NumberIs s t.a t.r = number_is s t.a t.r t.first in
          let v : t.r ≡ z = cc t.next in
          let w : marks + 0 ≡ marks = omega arith in
          record { mark = false; m = t.a; is = k.is ∙ ap (λ (y : List ℕ). decimal t.a ++ y) v; fine = k.fine; row_is = rw w (cc t.next) }

  range_text :
      (less : Bool) (n : ℕ) (mark : Bool) (m : ℕ) → bases_text (range less n mark m) ++ z ≡
      pick less (bytes "<") [] ++ (decimal n ++ (46 ∷ 46 ∷ (pick mark (bytes ">") [] ++ (decimal m ++ z))))
  range_text less n mark m = simp append_assoc

  -- after the first number
  range_is :
      (less : Bool) (n : ℕ) (s y r : List ℕ) → s ≡ pick less (bytes "<") [] ++ (decimal n ++ y) → number_fine n ≡ true →
      behind (bytes "..") y ≡ is r → range_from row (pick less 1 0) n r ≡ found x z → BasesIs row s x z
  range_is less n s y r e f g h =
      let t : ToIs row (pick less 1 0) n r x z = to_is (pick less 1 0) n r h in
      let v : r ≡ pick t.mark (bytes ">") [] ++ (decimal t.m ++ z) = t.is in
      let w : y ≡ 46 ∷ 46 ∷ r = behind_is (bytes "..") y r g in
      record {
        the = range less n t.mark t.m;
        is = rw (range_text less n t.mark t.m, ← v, ← w) e;
        fine = cc t.fine;
        row_is = t.row_is;
      }

  between_is : (n : ℕ) (s y : List ℕ) → s ≡ decimal n ++ y → number_fine n ≡ true → between_or row n (behind (bytes "^") y) y ≡ found x z → BasesIs row s x z
  between_is n s y e f h = go (behind (bytes "^") y) refl h
    where
      go : (o : May (List ℕ)) → behind (bytes "^") y ≡ o → between_or row n o y ≡ found x z → BasesIs row s x z
      go (is r) g h =
          let t = then_is (base_number r) (λ m z. found (row 3 0 n m) z) x z h in
          let k : NumberIs r t.a t.r = number_is r t.a t.r t.first in
          let v : t.r ≡ z = cc t.next in
          let w : r ≡ decimal t.a ++ z = k.is ∙ ap (λ (y : List ℕ). decimal t.a ++ y) v in
          let q : (decimal n ++ (94 ∷ decimal t.a)) ++ z ≡ decimal n ++ (94 ∷ (decimal t.a ++ z)) = append_assoc (decimal n) (94 ∷ decimal t.a) z in
          record {
            the = between n t.a;
            is = rw (q, ← w, ← behind_is (bytes "^") y r g) e;
            fine = cc k.fine;
            row_is = cc t.next;
          }
      go absent g h = let v : y ≡ z = cc in record { the = base n; is = rw (← v) e; fine = f; row_is = cc }

  bases_is : (s : List ℕ) → bases_from row (behind (bytes "<") s) s ≡ found x z → BasesIs row s x z
  bases_is s h = go (behind (bytes "<") s) refl h
    where
      go : (o : May (List ℕ)) → behind (bytes "<") s ≡ o → bases_from row o s ≡ found x z → BasesIs row s x z
      go (is r) e h = inner (behind (bytes "..") t.r) refl t.next
        where
          t : Then (base_number r) (λ n z. after_less row n (behind (bytes "..") z)) x z
          t = then_is (base_number r) (λ n z. after_less row n (behind (bytes "..") z)) x z h

          k : NumberIs r t.a t.r
          k = number_is r t.a t.r t.first

          inner : (o : May (List ℕ)) → behind (bytes "..") t.r ≡ o → after_less row t.a o ≡ found x z → BasesIs row s x z
          inner (is q) g h = range_is true t.a s t.r q (behind_is (bytes "<") s r e ∙ ap (λ (y : List ℕ). 60 ∷ y) k.is) k.fine g h
          inner absent g h = impossible cc
      go absent e h = inner (behind (bytes "..") t.r) refl t.next
        where
          t : Then (base_number s) (λ n z. after_first row n (behind (bytes "..") z) z) x z
          t = then_is (base_number s) (λ n z. after_first row n (behind (bytes "..") z) z) x z h

          k : NumberIs s t.a t.r
          k = number_is s t.a t.r t.first

          inner : (o : May (List ℕ)) → behind (bytes "..") t.r ≡ o → after_first row t.a o t.r ≡ found x z → BasesIs row s x z
          inner (is q) g h = range_is false t.a s t.r q k.is k.fine g h
          inner absent g h = between_is t.a s t.r k.is k.fine h

-- ---- leaves

record AccessionIs (s r : List ℕ) : Type 0 where
  the : Accession
  text : s ≡ accession_text the ++ (58 ∷ r)
  fine : accession_fine (is the) ≡ true

accession_is : (s r : List ℕ) → accession s ≡ is r → AccessionIs s r
unfolding accession
accession_is s r h = go (some (run in_accession s)) refl (behind (bytes ".") (past in_accession s)) refl
  where
    version : (z : List ℕ) → some (run in_accession s) ≡ true → behind (bytes ".") (past in_accession s) ≡ is z → version_colon (is z) ≡ is r → AccessionIs s r
    version z e f g = inner (some (run digit z)) refl
      where
        inner : (x : Bool) → some (run digit z) ≡ x → AccessionIs s r
        inner true k =
            let c : behind (bytes ":") (past digit z) ≡ is r = rw k at g in
            let a : Accession = record { name = run in_accession s; version = run digit z } in
            let u : past digit z ≡ 58 ∷ r = behind_is (bytes ":") (past digit z) r c in
            let v : past in_accession s ≡ 46 ∷ z = behind_is (bytes ".") (past in_accession s) z f in
            let w : z ≡ run digit z ++ (58 ∷ r) = run_past digit z ∙ ap (λ (y : List ℕ). run digit z ++ y) u in
            record {
              the = a;
              text =
                  run_past in_accession s ∙ ap (λ (y : List ℕ). run in_accession s ++ y) (v ∙ ap (λ (y : List ℕ). 46 ∷ y) w) ∙
                  sym (append_assoc (run in_accession s) (46 ∷ run digit z) (58 ∷ r));
              fine = cc (run_all in_accession s, run_all digit z);
            }
        inner false k = impossible cc

    go : (x : Bool) → some (run in_accession s) ≡ x → (o : May (List ℕ)) → behind (bytes ".") (past in_accession s) ≡ o → AccessionIs s r
    go true e (is z) f = version z e f (cc)
    go true e absent f = impossible cc
    go false e o f = impossible cc

-- ---- what was read of a location, and the tree that prints it

module _ (gaps : Bool) (n left : ℕ) (s : List ℕ) (x : LocationRow) (z : List ℕ) where
  leaf_is : leaf n s ≡ found x z → Parsed gaps n left s (x ∷ []) z
  unfolding leaf bases printed proper nested rows_at
  leaf_is h = go (accession s) refl h
    where
      go : (o : May (List ℕ)) → accession s ≡ o → leaf_from n s o ≡ found x z → Parsed gaps n left s (x ∷ []) z
      go (is r) e h =
          let a : AccessionIs s r = accession_is s r e in
          let b : BasesIs (leaf_row (n - length s) (length s - length r - 1)) r x z = bases_is (leaf_row (n - length s) (length s - length r - 1)) x z r h in
          let q : (accession_text a.the ++ (58 ∷ bases_text b.the)) ++ z ≡ accession_text a.the ++ (58 ∷ (bases_text b.the ++ z)) =
          append_assoc (accession_text a.the) (58 ∷ bases_text b.the) z in
          let l : length s ≡ length (accession_text a.the) + suc (length r) = ap length a.text ∙ length-append (accession_text a.the) (58 ∷ r) in
          record {
            tree = leafTree (is a.the) b.the;
            is = a.text ∙ ap (λ (y : List ℕ). accession_text a.the ++ (58 ∷ y)) b.is ∙ sym q;
            fine = cc (a.fine, b.fine);
            depth = omega arith;
            rows_are = λ at m.
                let u : n - length s ≡ at = omega arith in
                let v : length s - length r - 1 ≡ length (accession_text a.the) = omega arith in
                ap (λ (y : LocationRow). y ∷ [])
                (b.row_is ∙ ap (λ (i : ℕ). bases_row (leaf_row i (length s - length r - 1)) b.the) u ∙ ap (λ (i : ℕ). bases_row (leaf_row at i) b.the) v);
          }
      go absent e h =
          let b : BasesIs (leaf_row 0 0) s x z = bases_is (leaf_row 0 0) x z s h in
          record {
            tree = leafTree absent b.the;
            is = b.is;
            fine = b.fine;
            depth = omega arith;
            rows_are = λ at m. ap (λ (y : LocationRow). y ∷ []) b.row_is;
          }

gap_is : (n left : ℕ) (s r : List ℕ) (x : LocationRow) (z : List ℕ) → s ≡ bytes "gap(" ++ r → gap_end n r (behind (bytes ")") (past in_gap r)) ≡ found x z → Parsed true n left s (x ∷ []) z
unfolding printed proper nested rows_at
gap_is n left s r x z e h = go (behind (bytes ")") (past in_gap r)) refl h
  where
    go : (o : May (List ℕ)) → behind (bytes ")") (past in_gap r) ≡ o → gap_end n r o ≡ found x z → Parsed true n left s (x ∷ []) z
    go (is y) f h =
        let t : List ℕ = run in_gap r in
        let u : y ≡ z = cc in
        let v : past in_gap r ≡ 41 ∷ z = behind_is (bytes ")") (past in_gap r) y f ∙ ap (λ (y : List ℕ). 41 ∷ y) u in
        let w : r ≡ (t ++ 41 ∷ []) ++ z = run_past in_gap r ∙ ap (λ (y : List ℕ). t ++ y) v ∙ sym (append_assoc t (41 ∷ []) z) in
        record {
          tree = gap t;
          is = e ∙ ap (λ (y : List ℕ). bytes "gap(" ++ y) w;
          fine = run_all in_gap r;
          depth = omega arith;
          rows_are = λ at m.
              let l : length s ≡ suc (suc (suc (suc (length r)))) = ap length e in
              let i : n - length r ≡ at + 4 = omega arith in
              let g : gap_row (n - length r) (length t) ≡ x = cc in
              ap (λ (y : LocationRow). y ∷ []) (sym g ∙ ap (λ (j : ℕ). gap_row j (length t)) i);
        }
    go absent f h = impossible cc

plain_is : (gaps : Bool) (n left : ℕ) (s : List ℕ) (x : LocationRow) (z : List ℕ) → plain gaps n s ≡ found x z → Parsed gaps n left s (x ∷ []) z
unfolding plain
plain_is false n left s x z h = leaf_is false n left s x z h
plain_is true n left s x z h = go (behind (bytes "gap(") s) refl h
  where
    go : (o : May (List ℕ)) → behind (bytes "gap(") s ≡ o → gap_or n s o ≡ found x z → Parsed true n left s (x ∷ []) z
    go (is r) e h = gap_is n left s r x z (behind_is (bytes "gap(") s r e) h
    go absent e h = leaf_is true n left s x z h

single_is : (gaps : Bool) (n left : ℕ) (s : List ℕ) (rows : List LocationRow) (z : List ℕ) → single (plain gaps n s) ≡ found rows z → Parsed gaps n left s rows z
single_is gaps n left s rows z h = go (plain gaps n s) refl h
  where
    go : (o : Found LocationRow) → plain gaps n s ≡ o → single o ≡ found rows z → Parsed gaps n left s rows z
    go (found x y) e h =
        let u : x ∷ [] ≡ rows = cc in
        let v : y ≡ z = cc in rw (← u, ← v) (plain_is gaps n left s x y e)
    go fault e h = impossible cc
    go deep e h = impossible cc

-- ---- words and their members

record ParsedAll (gaps : Bool) (n left form : ℕ) (s : List ℕ) (rows : List LocationRow) (r : List ℕ) : Type 0 where
  trees : Trees
  is : s ≡ printed_all trees ++ r
  fine : proper_all gaps trees ≡ true
  depth : nested_all trees ≤ left
  rows_are : (at : ℕ) → n ≡ at + length s → rows ≡ rows_at_all at trees
  only : eqb form 4 ≡ true → (t : Tree) × (trees ≡ last t)

module _ (gaps : Bool) (n left form : ℕ) (s : List ℕ) where
  all_last : (rows : List LocationRow) (r : List ℕ) → Parsed gaps n left s rows r → ParsedAll gaps n left form s rows r
  unfolding printed proper nested rows_at
  all_last rows r p =
      record { trees = last p.tree; is = p.is; fine = p.fine; depth = p.depth; rows_are = p.rows_are; only = λ e. (p.tree, refl) }

  all_before :
      (rows : List LocationRow) (y z : List ℕ) (more : List LocationRow) (r : List ℕ) → Parsed gaps n left s rows y → comma_in form y ≡ is z →
      ParsedAll gaps n left form z more r → ParsedAll gaps n left form s (rows ++ more) r
  unfolding printed proper nested rows_at
  all_before rows y z more r p e q =
      let u : y ≡ 44 ∷ z = behind_is (bytes ",") y z (comma_is form y z e) in
      let v : s ≡ printed p.tree ++ (44 ∷ z) = p.is ∙ ap (λ (y : List ℕ). printed p.tree ++ y) u in
      let w : length s ≡ length (printed p.tree) + suc (length z) = ap length v ∙ length-append (printed p.tree) (44 ∷ z) in
      record {
        trees = before p.tree q.trees;
        is = v ∙ ap (λ (y : List ℕ). printed p.tree ++ (44 ∷ y)) q.is ∙ sym (append_assoc (printed p.tree) (44 ∷ printed_all q.trees) r);
        fine = cc (p.fine, q.fine);
        depth = omega (arith, p.depth, q.depth);
        rows_are = λ at m.
            let a : rows ≡ rows_at at p.tree = p.rows_are at m in
            let b : more ≡ rows_at_all (at + length (printed p.tree) + 1) q.trees = q.rows_are (at + length (printed p.tree) + 1) (omega arith) in
            cc;
        only = λ f. impossible (cc);
      }

module _ (gaps : Bool) (n left form : ℕ) (p : List ℕ → Found (List LocationRow)) (h : (s : List ℕ) (rows : List LocationRow) (r : List ℕ) → p s ≡ found rows r → Parsed gaps n left s rows r) where
  members_are : (k : ℕ) (s : List ℕ) (rows : List LocationRow) (r : List ℕ) → members_in k form p s ≡ found rows r → ParsedAll gaps n left form s rows r
  unfolding members_in
  members_are zero s rows r e = impossible cc
  members_are (suc k) s rows r e = go (members_are k) (p s) refl
    where
      go :
          ((s : List ℕ) (rows : List LocationRow) (r : List ℕ) → members_in k form p s ≡ found rows r → ParsedAll gaps n left form s rows r) →
          (o : Found (List LocationRow)) → p s ≡ o → ParsedAll gaps n left form s rows r
      go ih (found l y) f = comma (comma_in form y) refl
        where
          rest : (z : List ℕ) (o : Found (List LocationRow)) → comma_in form y ≡ is z → members_in k form p z ≡ o → ahead l o ≡ found rows r → ParsedAll gaps n left form s rows r
          rest z (found more w) g a b =
              let u : l ++ more ≡ rows = cc in
              let v : w ≡ r = cc in rw (← u, ← v) (all_before gaps n left form s l y z more w (h s l y f) g (ih z more w a))
          rest z fault g a b = impossible cc
          rest z deep g a b = impossible cc

          comma : (o : May (List ℕ)) → comma_in form y ≡ o → ParsedAll gaps n left form s rows r
          comma (is z) g = rest z (members_in k form p z) g refl (sym (members_more k form p s l y z f g) ∙ e)
          comma absent g =
              let a : found l y ≡ found rows r = sym (members_last k form p s l y f g) ∙ e in
              let u : l ≡ rows = cc in
              let v : y ≡ r = cc in rw (← u, ← v) (all_last gaps n left form s l y (h s l y f))
      go ih fault f = impossible (cc (rw (members_in, f) at e))
      go ih deep f = impossible (cc (rw (members_in, f) at e))

-- a word, its members up to r and its bracket are the text of that tree
word_is :
    (gaps : Bool) (n left form : ℕ) (w s x : List ℕ) (l : List LocationRow) (r : List ℕ) (t : Tree) (ts : Trees) → s ≡ w ++ x → x ≡ printed_all ts ++ (41 ∷ r) →
    printed t ≡ w ++ (printed_all ts ++ bytes ")") → proper gaps t ≡ true → nested t ≤ left →
    ((at : ℕ) → n ≡ at + length w + length x → closing form l ≡ rows_at at t) → Parsed gaps n left s (closing form l) r
word_is gaps n left form w s x l r t ts e f p g d rows =
    let q : (w ++ (printed_all ts ++ 41 ∷ [])) ++ r ≡ w ++ (printed_all ts ++ (41 ∷ r)) = simp append_assoc in
    let k : length s ≡ length w + length x = ap length e ∙ length-append w x in
    record {
      tree = t;
      is = e ∙ ap (λ (y : List ℕ). w ++ y) f ∙ sym q ∙ sym (ap (λ (y : List ℕ). y ++ r) p);
      fine = g;
      depth = d;
      rows_are = λ at m. rows at (omega arith);
    }

module _ (gaps : Bool) (n left : ℕ) (s x : List ℕ) (l : List LocationRow) (r : List ℕ) where
  complement_is : s ≡ bytes "complement(" ++ x → ParsedAll gaps n left 4 x l (41 ∷ r) → Parsed gaps n (suc left) s (closing 4 l) r
  unfolding printed proper nested rows_at
  complement_is e q =
      let o = q.only refl in
      let t : Tree = o.0 in
      let one : q.trees ≡ last t = o.1 in
      let d : nested t ≤ left = rw one at q.depth in
      word_is gaps n (suc left) 4 (bytes "complement(") s x l r (complement t) (last t) e (q.is ∙ ap (λ (y : Trees). printed_all y ++ (41 ∷ r)) one) refl
      (sym (ap (proper_all gaps) one) ∙ q.fine) (omega arith)
      (λ at m. ap (closing 4) (q.rows_are (at + 11) m ∙ ap (rows_at_all (at + 11)) one))

  join_is : s ≡ bytes "join(" ++ x → ParsedAll gaps n left 5 x l (41 ∷ r) → Parsed gaps n (suc left) s (closing 5 l) r
  unfolding printed proper nested rows_at
  join_is e q =
      word_is gaps n (suc left) 5 (bytes "join(") s x l r (join q.trees) q.trees e q.is refl q.fine (omega (arith, q.depth))
      (λ at m. ap (closing 5) (q.rows_are (at + 5) m))

  order_is : s ≡ bytes "order(" ++ x → ParsedAll gaps n left 6 x l (41 ∷ r) → Parsed gaps n (suc left) s (closing 6 l) r
  unfolding printed proper nested rows_at
  order_is e q =
      word_is gaps n (suc left) 6 (bytes "order(") s x l r (order q.trees) q.trees e q.is refl q.fine (omega (arith, q.depth))
      (λ at m. ap (closing 6) (q.rows_are (at + 6) m))

  begin_is : (form : ℕ) → begin s ≡ word form x → ParsedAll gaps n left form x l (41 ∷ r) → Parsed gaps n (suc left) s (closing form l) r
  unfolding begin
  begin_is form h q = go (behind (bytes "complement(") s) refl (behind (bytes "join(") s) refl (behind (bytes "order(") s) refl
    where
      go :
          (a : May (List ℕ)) → behind (bytes "complement(") s ≡ a → (b : May (List ℕ)) → behind (bytes "join(") s ≡ b → (c : May (List ℕ)) →
          behind (bytes "order(") s ≡ c → Parsed gaps n (suc left) s (closing form l) r
      go (is y) e b f c g =
          let u : form ≡ 4 = cc in
          rw u (complement_is (behind_is (bytes "complement(") s x (cc)) (rw u at q))
      go absent e (is y) f c g =
          let u : form ≡ 5 = cc in
          rw u (join_is (behind_is (bytes "join(") s x (cc)) (rw u at q))
      go absent e absent f (is y) g =
          let u : form ≡ 6 = cc in
          rw u (order_is (behind_is (bytes "order(") s x (cc)) (rw u at q))
      go absent e absent f absent g = impossible cc

-- the members and the closing bracket
closed_is :
    (gaps : Bool) (n left form : ℕ) (s x : List ℕ) (rows : List LocationRow) (r : List ℕ) → begin s ≡ word form x → (o : Found (List LocationRow)) →
    ((l : List LocationRow) (y : List ℕ) → o ≡ found l y → ParsedAll gaps n left form x l y) → closed form o ≡ found rows r → Parsed gaps n (suc left) s rows r
closed_is gaps n left form s x rows r e fault q h = impossible cc
closed_is gaps n left form s x rows r e deep q h = impossible cc
closed_is gaps n left form s x rows r e (found l y) q h = go (behind (bytes ")") y) refl h
  where
    go : (o : May (List ℕ)) → behind (bytes ")") y ≡ o → closed_by form l o ≡ found rows r → Parsed gaps n (suc left) s rows r
    go (is z) f k =
        let u : closing form l ≡ rows = cc in
        let v : y ≡ 41 ∷ r = behind_is (bytes ")") y r (cc) in
        rw (← u) (begin_is gaps n left s x l r form e (rw v at (q l y refl)))
    go absent f k = impossible cc

-- ---- locations

from_is :
    (gaps : Bool) (n left : ℕ) (b : Begin) (s : List ℕ) (rows : List LocationRow) (r : List ℕ) → begin s ≡ b → location_from gaps n left b s ≡ found rows r →
    Parsed gaps n left s rows r
unfolding location_from
from_is gaps n zero (word form x) s rows r e h = impossible cc
from_is gaps n (suc left) (word form x) s rows r e h =
    closed_is gaps n left form s x rows r e (members_in (suc (length x)) form (λ z. location_from gaps n left (begin z) z) x)
    (λ l y f. members_are gaps n left form (λ z. location_from gaps n left (begin z) z) (λ z l y g. from_is gaps n left (begin z) z l y refl g) (suc (length x)) x l y f)
    h
from_is gaps n zero other s rows r e h = single_is gaps n zero s rows r h
from_is gaps n (suc left) other s rows r e h = single_is gaps n (suc left) s rows r h

-- what was read of a location is what a tree prints
pub location_is :
    (gaps : Bool) (n left : ℕ) (s : List ℕ) (rows : List LocationRow) (r : List ℕ) → location gaps n left s ≡ found rows r → Parsed gaps n left s rows r
location_is gaps n left s rows r h = from_is gaps n left (begin s) s rows r refl h
