use Rattle.std.proofs.Common.{rules, ◌≡◌}
use Rattle.commandline.specs.Help.{command_help_text}
use Rattle.asked.specs.Task.{of_command_help, of_command_version}
use Rattle.asked.proofs.task.of_command.Goals as goal

pub returns-in_ok-command_help-in-Ok-Help : goal.returns-in_ok-command_help-in-Ok-Help
returns-in_ok-command_help-in-Ok-Help c = λ ws start.
    let told : c.into_bytes.result.items ≡ command_help_text c.args.command = search rules in
    of_command_help c.args.command start told

pub returns-in_ok-version-in-Ok-Version : goal.returns-in_ok-version-in-Ok-Version
returns-in_ok-version-in-Ok-Version c = λ ws start. of_command_version c.args.command start c.in_ok-version-in-Ok-Version.ensures

pub returns-in-Ok-Work : goal.returns-in-Ok-Work
returns-in-Ok-Work c = λ ws start. (c.args.command, start, rw c.in-Ok-Work.field-0-is at c.in-Ok-Work.ensures)
