-- What is stored of share partitions as text, for one who looks at a broker's disks (this project's own;
-- docs/SCRIPT.md shows it).
-- For example a table of the group `g` on partition 0 of `orders` whose one record was released once is `table 67
-- orders/0 start 0 complete 0` and `run 0 0 available 1` (layer_rows, `a record that was released`).
use Rattle.std.specs.Prelude.{ℕ, List, [], ◌∷◌, ◌++◌, codes}
use Rattle.std.specs.List.{flat_map}
use Rattle.std.specs.Fmt.{decimal, signed_decimal}
use Rattle.hex.specs.Hex.{encode_lower}
use Rattle.uuid.specs.Text.{hyphenated_text, lower}
use Rattle.share_model.specs.Keys.{KeyParts}
use Rattle.share_model.specs.ShareStates.{ShareState}
use Rattle.share_model.specs.declared.row.RowState.{RowState}
use Rattle.share_model.specs.declared.row.RowState.TheVariants.{Available, Acknowledged, Archived}
use Rattle.share_model.specs.declared.run.Run.{Run}
use Rattle.offset_runs.specs.Complete.{complete_rows}

abbrev pub state_word : RowState → List ℕ
state_word Available = codes "available"
state_word Acknowledged = codes "acknowledged"
state_word Archived = codes "archived"

-- the first and the last offset, the state, and how often the records were delivered; 10 is a line feed
abbrev pub run_line : Run → List ℕ
run_line run = codes "run " ++ (decimal run.first ++ (codes " " ++ (decimal run.last ++ (codes " "
    ++ (state_word run.state ++ (codes " " ++ (decimal run.count ++ 10 ∷ [])))))))

-- a state's runs are the canonical ones: in order, disjoint, and none that could be joined to the next
abbrev pub run_lines : List Run → List ℕ
run_lines runs = flat_map run_line runs

-- the group's bytes in hexadecimal, the partition as `orders/0`, the start offset, and how many rows are acknowledged or archived
abbrev pub table_line : List ℕ → List ℕ → ℕ → ShareState → List ℕ
table_line group topic part state = codes "table " ++ (encode_lower group ++ (codes " " ++ (topic ++ (codes "/"
    ++ (decimal part ++ (codes " start " ++ (signed_decimal state.start
    ++ (codes " complete " ++ (decimal (complete_rows state.runs) ++ 10 ∷ [])))))))))

abbrev pub table_text : List ℕ → List ℕ → ℕ → ShareState → List ℕ
table_text group topic part state = table_line group topic part state ++ run_lines state.runs

-- the group, the topic's id with hyphens, the partition, both epochs, the start offset, or -1 where none was given, and the same number
abbrev pub foreign_line : KeyParts → ShareState → List ℕ
foreign_line key state = codes "foreign " ++ (encode_lower key.group ++ (codes " " ++ (hyphenated_text lower key.topic
    ++ (codes " " ++ (decimal key.part ++ (codes " state " ++ (signed_decimal state.state_epoch
    ++ (codes " leader " ++ (signed_decimal state.leader_epoch
    ++ (codes " start " ++ (signed_decimal state.start
    ++ (codes " complete " ++ (decimal (complete_rows state.runs) ++ 10 ∷ [])))))))))))))

abbrev pub foreign_text : KeyParts → ShareState → List ℕ
foreign_text key state = foreign_line key state ++ run_lines state.runs
