-- How long the header's lines can become, of texts in a store of at most 16,777,216 bytes.
use Rattle.std.specs.Prelude.{ℕ, zero, suc, ◌+◌, ◌*◌, ◌≤◌, List, [], ◌++◌, length, get_or, Option, Some, None}
use Rattle.std.proofs.Common.{mul-suc, arith, length-append, length-take, length-drop}
use Rattle.spec_format.specs.Bytes.{bytes, each}
use Rattle.spec_format.specs.Rooms.{Rooms, cut, may_text, may_source, text_in, perhaps_text, perhaps_in, rows_from, reference_in, comment_in, table_of}
use Rattle.spec_format.specs.Write.{field_lines, maybe_lines, source_lines, reference_lines, header_lines}
use Rattle.spec_format.specs.declared.Span.{Span}
use Rattle.spec_format.specs.declared.Head.{Head}
use Rattle.spec_format.specs.declared.SourceText.{SourceText}
use Rattle.write_field.specs.Field.{field_length}
use Rattle.spec_format.specs.Record.{most}

pub record AtMost (x : List ℕ) (n : ℕ) : Type 0 where
  pub is : length x ≤ n

pub none_most : {n : ℕ} → AtMost [] n
none_most {n} = record { is = omega arith }

pub both_most : {x y : List ℕ} {m n : ℕ} → AtMost x m → AtMost y n → AtMost (x ++ y) (m + n)
both_most {x} {y} h k = record { is = omega (arith, h.is, k.is, length-append x y) }

-- rows of at most c bytes each
pub each_most : {A : Type 0} (f : A → List ℕ) (g : ℕ → A) (w i n c : ℕ) → ((at : ℕ) → AtMost (f (g at)) c) → AtMost (each f (rows_from g w i n)) (c * n)
unfolding rows_from
each_most f g w i zero c h = none_most
each_most f g w i (suc n) c h =
    let t = h (w * i) in
    let u = each_most f g w (i + 1) n c h in
    record { is = omega (arith, mul-suc c n, length-append (f (g (w * i))) (each f (rows_from g w (i + 1) n))) }

pub cut_most : (store : List ℕ) (start n : ℕ) → length (cut store start n) ≤ length store
cut_most store start n = simp (length-take, length-drop) (omega arith)

module _ (W : ℕ) (store : List ℕ) (small : length store ≤ most) where
  -- 24 * 16,777,216 + 37
  span_most : (word : List ℕ) (start n : ℕ) → length word ≤ 12 → AtMost (field_lines W word (cut store start n)) 402653221
  span_most word start n h = record { is = omega (arith, field_length W word (cut store start n) h, cut_most store start n) }

  text_most : (word : List ℕ) (t : Option Span) → length word ≤ 12 → AtMost (maybe_lines W word (may_text store t)) 402653221
  text_most word None h = none_most
  text_most word (Some s) h = span_most word s.start s.length h

  perhaps_most : (word : List ℕ) (start n : ℕ) → length word ≤ 12 → AtMost (maybe_lines W word (perhaps_text store start n)) 402653221
  perhaps_most word start zero h = none_most
  perhaps_most word start (suc n) h = span_most word start n h

  source_most : (s : Option SourceText) → AtMost (source_lines W (may_source store s)) 805306442
  source_most None = none_most
  source_most (Some s) =
      both_most (span_most (bytes "SOURCE") s.text.start s.text.length (omega arith)) (text_most (bytes "  ORGANISM") s.organism (omega arith))

  -- the texts of a row
  row_most : (word rows : List ℕ) (at : ℕ) → length word ≤ 12 → AtMost (field_lines W word (text_in store rows at)) 402653221
  row_most word rows at h = span_most word (get_or rows at 0) (get_or rows (at + 1) 0) h

  row_may_most : (word rows : List ℕ) (at : ℕ) → length word ≤ 12 → AtMost (maybe_lines W word (perhaps_in store rows at)) 402653221
  row_may_most word rows at h = perhaps_most word (get_or rows at 0) (get_or rows (at + 1) 0) h

module _ (W : ℕ) (r : Rooms) (small : length r.texts ≤ most) where
  abbrev row : (word : List ℕ) (at : ℕ) → length word ≤ 12 → AtMost (field_lines W word (text_in r.texts r.references at)) 402653221
  row word at h = row_most W r.texts small word r.references at h

  abbrev may : (word : List ℕ) (at : ℕ) → length word ≤ 12 → AtMost (maybe_lines W word (perhaps_in r.texts r.references at)) 402653221
  may word at h = row_may_most W r.texts small word r.references at h

  -- seven texts
  reference_most : (at : ℕ) → AtMost (reference_lines W (reference_in r at)) 2818572547
  unfolding reference_lines reference_in
  reference_most at =
      both_most
      (both_most
      (both_most
      (both_most
      (both_most
      (both_most (row (bytes "REFERENCE") at (omega arith)) (may (bytes "  AUTHORS") (at + 2) (omega arith)))
      (may (bytes "  CONSRTM") (at + 4) (omega arith)))
      (row (bytes "  TITLE") (at + 6) (omega arith)))
      (may (bytes "  JOURNAL") (at + 8) (omega arith)))
      (may (bytes "   PUBMED") (at + 10) (omega arith)))
      (may (bytes "  REMARK") (at + 12) (omega arith))

  comment_most : (at : ℕ) → AtMost (field_lines W (bytes "COMMENT") (comment_in r at)) 402653221
  unfolding comment_in
  comment_most at = row_most W r.texts small (bytes "COMMENT") r.comments at (omega arith)

  abbrev one : (word : List ℕ) (t : Option Span) → length word ≤ 12 → AtMost (maybe_lines W word (may_text r.texts t)) 402653221
  one word t h = text_most W r.texts small word t h

  pub header_most : (h : Head) → AtMost (header_lines W (table_of r h)) (2818572547 + 2818572547 * h.references + 402653221 * h.comments)
  unfolding header_lines table_of
  header_most h =
      both_most
      (both_most
      (both_most
      (both_most
      (both_most
      (both_most
      (both_most (one (bytes "DEFINITION") h.definition (omega arith)) (one (bytes "ACCESSION") h.accession (omega arith)))
      (one (bytes "VERSION") h.version (omega arith)))
      (one (bytes "DBLINK") h.dblink (omega arith)))
      (one (bytes "KEYWORDS") h.keywords (omega arith)))
      (source_most W r.texts small h.source))
      (each_most (reference_lines W) (reference_in r) 14 0 h.references 2818572547 reference_most))
      (each_most (field_lines W (bytes "COMMENT")) (comment_in r) 2 0 h.comments 402653221 comment_most)
