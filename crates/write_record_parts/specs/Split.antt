-- A table of rows that are structs comes apart into the rows, CONTIG and the rest: numbers 10, 11 and 13, and the record written.
use Rattle.std.specs.Prelude.{ℕ, zero, suc, ◌+◌, ◌*◌, ◌/◌, ◌≡◌, Bool, ◌&&◌, length, take, Option, Some, None}
use Rattle.std.proofs.Math.Path.{refl, ap}
use Rattle.std.proofs.Common.{◌∙◌}
use Rattle.std.proofs.Math.Bool.{true, false}
use mathlib.Core.List.{List, [], ◌++◌, append_assoc}
use Rattle.std.proofs.Math.Dec.{leb}
use Rattle.judge_feature.specs.Rules.{feature_of, kept_is}
use Rattle.write_feature_row.specs.Flat.{rows_in}
use Rattle.spec_format.specs.Bytes.{all, each}
use Rattle.spec_format.specs.Record.{most}
use Rattle.spec_format.specs.Rooms.{Rooms, may_contig, may_length, rows_from, reference_in, comment_in, qualifier_in, feature_in, table_of, span_fine, text_fine, source_fine, contig_text_fine, rows_fine, reference_row_fine, comment_row_fine, features_fine, lengths_fine, head_fine, counts_fine, rooms_fine, rooms_in}
use Rattle.spec_format.specs.Table.{Feature as Described}
use Rattle.spec_format.specs.Utf8.{utf8}
use Rattle.spec_format.specs.WellFormed.{if_is, header_texts, locus_fine, feature_fine, contig_fine, letters_fine, well_formed}
use Rattle.spec_format.specs.Keeping.{switches_kept, locus_kept, header_kept, pubmed_kept, feature_kept, keeps}
use Rattle.spec_format.specs.Write.{length_or, length_text, printed_name, locus_text, header_lines, feature_lines, features_lines, contig_lines, written}
use Rattle.spec_format.specs.declared.ContigText.{ContigText}
use Rattle.spec_format.specs.declared.Head.{Head}
use Rattle.judge_header.specs.declared.Rule.TheVariants as rule
use Rattle.write_locus.specs.Line.{line_with, line_is}
use Rattle.base_rows.specs.Rows.{flat}
use Rattle.base_rows.specs.declared.Feature.{Feature}
use Rattle.judge_rooms.proofs.Facts.{rooms_in_lem}
use Rattle.judge_rooms.specs.Parts.{reference_rooms, feature_rooms, rest_head}
use Rattle.judge_record.specs.Rest.{rest_table}
use Rattle.write_record_parts.specs.Parts.{title, before_parts, after_parts}
use Rattle.spec_format.specs.declared.How.{How}

and_false : (x : Bool) → false ≡ (x && false)
and_false true = refl
and_false false = refl

-- ---- the rows of the table, and their features

abbrev pub rows_rooms : List ℕ → List ℕ → List ℕ → List ℕ → List ℕ → List ℕ → List Feature → Rooms
rows_rooms t rf cm q lo l rows = rooms_in t rf cm (flat rows) q lo l

-- the feature at a place of the flat numbers, but for its location rows
abbrev pub feature_at : List ℕ → List ℕ → List Feature → ℕ → Described
feature_at t q rows at = feature_in (feature_rooms t (flat rows) q) at

-- rows that pass alike, and rows whose lines are alike
all_alike : {A : Type 0} (p : A → Bool) (f g : ℕ → A) (w i n : ℕ) → ((at : ℕ) → p (f at) ≡ p (g at)) → all p (rows_from f w i n) ≡ all p (rows_from g w i n)
unfolding rows_from
all_alike p f g w i zero e = refl
all_alike p f g w i (suc n) e = rw (e (w * i), all_alike p f g w (i + 1) n e)

each_alike : {A : Type 0} (p : A → List ℕ) (f g : ℕ → A) (w i n : ℕ) → ((at : ℕ) → p (f at) ≡ p (g at)) → each p (rows_from f w i n) ≡ each p (rows_from g w i n)
unfolding rows_from
each_alike p f g w i zero e = refl
each_alike p f g w i (suc n) e = rw (e (w * i), each_alike p f g w (i + 1) n e)

contig_alike : (W : ℕ) (r : Rooms) (c : Option ContigText) → contig_lines W (may_contig r c) ≡ contig_lines W (may_contig (reference_rooms r.texts []) c)
contig_alike W r None = refl
contig_alike W r (Some c) = refl

module _ (t rf cm q lo l : List ℕ) (rows : List Feature) (h : Head) where
  -- number 10
  head_split : head_fine (rows_rooms t rf cm q lo l rows) h ≡
      (head_fine (rooms_in t rf cm [] q lo l) (rest_head h) && contig_text_fine (rows_rooms t rf cm q lo l rows) h.contig)
  unfolding head_fine
  head_split =
      go
      (text_fine (length t) h.name)
      (text_fine (length t) h.molecule)
      (span_fine (length t) h.division.start h.division.length)
      (text_fine (length t) h.definition)
      (text_fine (length t) h.accession)
      (text_fine (length t) h.version)
      (text_fine (length t) h.dblink)
      (text_fine (length t) h.keywords)
      (source_fine (length t) h.source)
      (contig_text_fine (rows_rooms t rf cm q lo l rows) h.contig)
    where
      go : (a b c d e f g i j z : Bool) → (a && (b && (c && (d && (e && (f && (g && (i && (j && z))))))))) ≡
          ((a && (b && (c && (d && (e && (f && (g && (i && (j && true))))))))) && z)
      go false b c d e f g i j z = refl
      go true false c d e f g i j z = refl
      go true true false d e f g i j z = refl
      go true true true false e f g i j z = refl
      go true true true true false f g i j z = refl
      go true true true true true false g i j z = refl
      go true true true true true true false i j z = refl
      go true true true true true true true false j z = refl
      go true true true true true true true true false z = refl
      go true true true true true true true true true z = refl

  pub rooms_split : rooms_fine (rows_rooms t rf cm q lo l rows) h ≡
      (rooms_fine (rooms_in t rf cm [] q lo l) (rest_head h) &&
      (leb (length rows) most && (leb h.features (length rows) &&
      (contig_text_fine (rows_rooms t rf cm q lo l rows) h.contig && features_fine (rows_rooms t rf cm q lo l rows) 0 0 h.features))))
  unfolding rooms_fine lengths_fine counts_fine reference_row_fine comment_row_fine features_fine
  rooms_split =
      rw (rows_in rows, head_split)
      (go
      (leb (length t) most)
      (leb (length rf / 14) most)
      (leb (length cm / 2) most)
      (leb (length rows) most)
      (leb (length q / 4) most && (leb (length lo / 7) most && leb (length l) most))
      (head_fine (rooms_in t rf cm [] q lo l) (rest_head h))
      (contig_text_fine (rows_rooms t rf cm q lo l rows) h.contig)
      (leb h.references (length rf / 14))
      (leb h.comments (length cm / 2))
      (leb h.features (length rows))
      (leb h.letters (length l))
      (rows_fine (reference_row_fine (rooms_in t rf cm [] q lo l)) 14 0 h.references)
      (rows_fine (comment_row_fine (rooms_in t rf cm [] q lo l)) 2 0 h.comments)
      (features_fine (rows_rooms t rf cm q lo l rows) 0 0 h.features))
    where
      unfit : (x y : Bool) → false ≡ (x && (y && false))
      unfit true true = refl
      unfit true false = refl
      unfit false y = refl

      go : (l1 l2 l3 many l5 head contig c1 c2 enough c4 rs cs fs : Bool) →
          ((l1 && (l2 && (l3 && (many && l5)))) && ((head && contig) && ((c1 && (c2 && (enough && c4))) && (rs && (cs && fs))))) ≡
          (((l1 && (l2 && (l3 && l5))) && (head && ((c1 && (c2 && c4)) && (rs && (cs && true))))) && (many && (enough && (contig && fs))))
      go false l2 l3 many l5 head contig c1 c2 enough c4 rs cs fs = refl
      go true false l3 many l5 head contig c1 c2 enough c4 rs cs fs = refl
      go true true false many l5 head contig c1 c2 enough c4 rs cs fs = refl
      go true true true false l5 head contig c1 c2 enough c4 rs cs fs = and_false (l5 && (head && ((c1 && (c2 && c4)) && (rs && (cs && true)))))
      go true true true true false head contig c1 c2 enough c4 rs cs fs = refl
      go true true true true true false contig c1 c2 enough c4 rs cs fs = refl
      go true true true true true true false c1 c2 enough c4 rs cs fs = unfit ((c1 && (c2 && c4)) && (rs && (cs && true))) enough
      go true true true true true true true false c2 enough c4 rs cs fs = refl
      go true true true true true true true true false enough c4 rs cs fs = refl
      go true true true true true true true true true false c4 rs cs fs = and_false (c4 && (rs && (cs && true)))
      go true true true true true true true true true true false rs cs fs = refl
      go true true true true true true true true true true true false cs fs = refl
      go true true true true true true true true true true true true false fs = refl
      go true true true true true true true true true true true true true fs = refl

  module _ (W : ℕ) (truncate escape : Bool) where
    -- number 11
    pub fine_split : well_formed W truncate escape (table_of (rows_rooms t rf cm q lo l rows) h) ≡
        (well_formed W truncate escape (rest_table t rf cm l h) &&
        (if_is contig_fine (may_contig (rows_rooms t rf cm q lo l rows) h.contig) && all (feature_fine W) (rows_from (feature_at t q rows) 8 0 h.features)))
    unfolding well_formed locus_fine printed_name length_text header_texts table_of reference_in comment_in feature_fine feature_in qualifier_in rows_from
    fine_split =
        rw (all_alike (feature_fine W) (feature_in (rows_rooms t rf cm q lo l rows)) (feature_at t q rows) 8 0 h.features (λ at. refl))
        (go
        (locus_fine truncate escape (table_of (rows_rooms t rf cm q lo l rows) h))
        (header_texts utf8 (table_of (rows_rooms t rf cm q lo l rows) h))
        (all (feature_fine W) (rows_from (feature_at t q rows) 8 0 h.features))
        (if_is contig_fine (may_contig (rows_rooms t rf cm q lo l rows) h.contig))
        (letters_fine (may_length h.length) (take h.letters l)))
      where
        go : (a b c d e : Bool) → (a && (b && (c && (d && e)))) ≡ ((a && (b && e)) && (d && c))
        go false b c d e = refl
        go true false c d e = refl
        go true true c d false = with_none c d
          where
            with_none : (c d : Bool) → (c && (d && false)) ≡ false
            with_none true true = refl
            with_none true false = refl
            with_none false d = refl
        go true true true true true = refl
        go true true true false true = refl
        go true true false true true = refl
        go true true false false true = refl

    -- number 13
    pub keeps_split : keeps W truncate escape (table_of (rows_rooms t rf cm q lo l rows) h) ≡
        (keeps W truncate escape (rest_table t rf cm l h) &&
        all (feature_of (rule.Kept W)) (rows_from (feature_at t q rows) 8 0 h.features))
    unfolding keeps header_texts table_of reference_in comment_in feature_kept feature_in qualifier_in rows_from
    keeps_split =
        rw (
          kept_is W (rows_from (feature_at t q rows) 8 0 h.features),
          all_alike (feature_kept W) (feature_in (rows_rooms t rf cm q lo l rows)) (feature_at t q rows) 8 0 h.features (λ at. refl),
        )
        (go
        (switches_kept truncate escape)
        (locus_kept (table_of (rows_rooms t rf cm q lo l rows) h).locus)
        (header_texts (header_kept W) (table_of (rows_rooms t rf cm q lo l rows) h))
        (all pubmed_kept (table_of (rows_rooms t rf cm q lo l rows) h).references)
        (all (feature_kept W) (rows_from (feature_at t q rows) 8 0 h.features)))
      where
        go : (a b c d e : Bool) → (a && (b && (c && (d && e)))) ≡ ((a && (b && (c && (d && true)))) && e)
        go false b c d e = refl
        go true false c d e = refl
        go true true false d e = refl
        go true true true false e = refl
        go true true true true e = refl

-- ---- the record

titled : (W n : ℕ) (g : ℕ → Described) → features_lines W (rows_from g 8 0 n) ≡ title n ++ each (feature_lines W) (rows_from g 8 0 n)
unfolding rows_from features_lines
titled W zero g = refl
titled W (suc n) g = refl

module _ (t rf cm q lo l : List ℕ) (rows : List Feature) (h : Head) (how : How) where
  locus_alike : rooms_fine (rooms_in t rf cm [] q lo l) (rest_head h) ≡ true
      → line_with how.truncate how.escape (length_or (may_length h.length) h.letters) (table_of (reference_rooms t []) (rest_head h)) ≡
      locus_text how.truncate how.escape (table_of (rows_rooms t rf cm q lo l rows) h)
  unfolding locus_text printed_name length_text table_of
  locus_alike e = line_is (rooms_in t rf cm [] q lo l) (rest_head h) (rooms_in_lem (rooms_in t rf cm [] q lo l) (rest_head h) e).counts.letters how.truncate how.escape

  header_alike : header_lines how.width (table_of (rooms_in t rf cm [] [] [] []) (rest_head h)) ≡ header_lines how.width (table_of (rows_rooms t rf cm q lo l rows) h)
  unfolding header_lines table_of reference_in comment_in
  header_alike = refl

  rest_alike : written how.width how.truncate how.escape (table_of (rows_rooms t rf cm q lo l rows) h) ≡
      locus_text how.truncate how.escape (table_of (rows_rooms t rf cm q lo l rows) h) ++
      header_lines how.width (table_of (rows_rooms t rf cm q lo l rows) h) ++
      features_lines how.width (rows_from (feature_in (rows_rooms t rf cm q lo l rows)) 8 0 h.features) ++
      after_parts t l h how.width
  unfolding written after_parts table_of
  rest_alike = rw (contig_alike how.width (rows_rooms t rf cm q lo l rows) h.contig) (simp append_assoc)

  features_alike : features_lines how.width (rows_from (feature_in (rows_rooms t rf cm q lo l rows)) 8 0 h.features) ≡
      title h.features ++ each (feature_lines how.width) (rows_from (feature_at t q rows) 8 0 h.features)
  unfolding feature_lines feature_in qualifier_in
  features_alike =
      titled how.width h.features (feature_in (rows_rooms t rf cm q lo l rows)) ∙
      ap (λ (x : List ℕ). title h.features ++ x)
      (each_alike (feature_lines how.width) (feature_in (rows_rooms t rf cm q lo l rows)) (feature_at t q rows) 8 0 h.features (λ at. refl))

  pub written_split : rooms_fine (rooms_in t rf cm [] q lo l) (rest_head h) ≡ true
      → written how.width how.truncate how.escape (table_of (rows_rooms t rf cm q lo l rows) h) ≡
      before_parts t rf cm (rest_head h) h.features how ++
      (each (feature_lines how.width) (rows_from (feature_at t q rows) 8 0 h.features) ++ after_parts t l h how.width)
  unfolding before_parts
  written_split e = rest_alike ∙ rw (locus_alike e, header_alike, features_alike) (simp append_assoc)
