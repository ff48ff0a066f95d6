-- What a message says.
use Rattle.frame.specs.Values.{Values, hello, stc, tree_status, hello_values, stc_values, tree_status_values}
use Rattle.frame.specs.declared.messages.Message.{Message}
use Rattle.frame.specs.declared.messages.Message.TheVariants as message

abbrev pub values : Message → Values
values (message.Hello m) = hello (hello_values m.fields)
values (message.Stc m) = stc (stc_values m.fields)
values (message.TreeStatus m) = tree_status (tree_status_values m.fields)
