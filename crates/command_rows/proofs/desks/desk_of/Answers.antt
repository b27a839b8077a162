use Rattle.std.proofs.Common.{◌∙◌, sym, ap, ◌≢◌, string_bytes}
use Rattle.command_rows.specs.declared.named_files.NamedFile.{NamedFile}
use Rattle.command_rows.proofs.FileLemmas.{holds_before, holds_there}
use Rattle.command_rows.proofs.desks.desk_of.Goals as goal

-- a name that none of the files has is not that of the file that is added
pub files-preserved : goal.files-preserved
files-preserved c = λ name unused.
    let files = c.args.files.now in
    let is_unused : NamedFile → Type 0 = λ file. string_bytes file.name ≢ name in
    let other = holds_there is_unused files c.files.i c.index-files-i.result c.files-test.true unused in
    c.add_file.ensures.others name (λ same. other (ap (λ file. string_bytes file.name) (sym c.index-files-i.is) ∙ (sym c.as_str-in-files.ensures.value ∙ sym same)))
    ∙ c.files.invariant name (holds_before is_unused files c.files.i c.index-files-i.result c.files-test.true unused)
