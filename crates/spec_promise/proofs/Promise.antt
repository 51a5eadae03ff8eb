-- WHAT IS PROMISED with the strict switch on. The statement can be read without its proof.
use Rattle.std.specs.Prelude.{ℕ, Bool, true, false, ◌≡◌, List, ◌++◌, length, leb}
use Rattle.spec_bases.specs.Bases.{coded}
use Rattle.spec_format.specs.Bytes.{all}
use Rattle.spec_format.specs.Table.{Table}
use Rattle.spec_format.specs.Record.{was_read, most}
use Rattle.spec_format.specs.Strict.{read_by}
use Rattle.spec_format.specs.Write.{written}
use Rattle.spec_strict.specs.Switch.{reads_alike}
use Rattle.spec_record_back.specs.RecordBack.{line_ends}
use Rattle.spec_promise.specs.Promise.{Taken, record_comes_back}

-- ---- the record comes back

-- The strict switch makes no difference to that, if the table's letters all have codes: with the switch on it is read back too.
pub record_comes_back_strictly :
    (W : ℕ) (truncate escape : Bool) (before : List ℕ) (t : Table) (rest : List ℕ) → Taken W truncate escape t → all coded t.letters ≡ true →
    line_ends rest ≡ false → leb (length (before ++ (written W truncate escape t ++ rest))) most ≡ true →
    read_by true (before ++ (written W truncate escape t ++ rest)) (length before) ≡ was_read t rest
record_comes_back_strictly W truncate escape before t rest k c e m =
    reads_alike true (before ++ (written W truncate escape t ++ rest)) (length before) t rest (record_comes_back W truncate escape before t rest k e m) c
