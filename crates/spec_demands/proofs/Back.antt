-- Why what the keeping writer has written comes back through any rooms that its table fits.
use Rattle.std.specs.Prelude.{ℕ, ◌≤◌, Bool, true, List, ◌≡◌, take}
use Rattle.std.proofs.Common.{sym, ap, ◌∙◌, arith}
use Rattle.spec_format.specs.Answers.{slice_after}
use Rattle.spec_format.specs.Record.{most}
use Rattle.spec_format.specs.Rooms.{Rooms, table_of, sizes, fits}
use Rattle.spec_format.specs.Strict.{letters_fit}
use Rattle.spec_format.specs.Write.{written}
use Rattle.spec_format.specs.declared.Head.{Head}
use Rattle.spec_format.specs.declared.WriteAnswer.{WriteAnswer}
use Rattle.spec_format.specs.declared.WriteAnswer.TheVariants as write
use Rattle.spec_promise.specs.Promise.{Back, rooms_come_back}
use Rattle.spec_contracts.specs.Told.{how_of}
use Rattle.spec_contracts.specs.Writes.{WriteAnswered}
use Rattle.spec_demands.specs.Answers.{length_below}

-- ---- THE WRITER, at width W with the two switches, and then THE READER

module _ (W : ℕ) (truncate escape : Bool) (r : Rooms) (h : Head) (old new : List ℕ) where
  pub back : (k : ℕ) → WriteAnswered (how_of true W truncate escape) r h old new (write.Done k) → k ≤ most → (strict : Bool) (before : Rooms) →
      fits (sizes (table_of r h)) before ≡ true → letters_fit strict (table_of r h) ≡ true → Back strict r h (take k new) k before
  back k call m strict before f c =
      rooms_come_back strict W truncate escape r h old new k (sym call.is) (call.slice ∙ ap (λ (x : WriteAnswer). slice_after x (written W truncate escape (table_of r h)) old) call.is)
      (length_below h.length call.fits) (omega (arith, m)) c before f
